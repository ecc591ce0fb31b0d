use Rattle.std.proofs.Common.{[], ◌∷◌, refl, arith, codes, inl, inr}
use Rattle.ax_lines.specs.Lined.{all_lines, input_too_long}
use Rattle.ax_lines.proofs.Plain.{plain_by, fed, limit_over}
use Rattle.ax_laws.proofs.line_stream_examples.ends_at_the_limit.Goals as goal

pub returns : goal.returns
returns c = record {
  reached = inl (record {
    end = all_lines;
    lined = fed 4 6 0 (codes "12") (10 ∷ 51 ∷ 10 ∷ []) ([] ∷ codes "3" ∷ []) all_lines refl (omega arith) (omega arith)
        (fed 4 6 3 [] (51 ∷ 10 ∷ []) (codes "3" ∷ []) all_lines refl (omega arith) (omega arith)
        (fed 4 6 4 (codes "3") [] [] all_lines refl (omega arith) (omega arith) refl));
    answered = record { each = (refl, (refl, (refl, tt))); none_refused = (tt, (tt, (tt, tt))) };
    is = refl;
  });
  passed = inl (record {
    end = input_too_long;
    lined = fed 4 6 0 (codes "1") (50 ∷ 10 ∷ 51 ∷ 52 ∷ 53 ∷ []) (codes "2" ∷ []) input_too_long refl (omega arith) (omega arith)
        (fed 4 6 2 (codes "2") (51 ∷ 52 ∷ 53 ∷ []) [] input_too_long refl (omega arith) (omega arith)
        (limit_over 4 6 4 (codes "34") 53 [] refl (omega arith) refl));
    answered = record { each = (refl, (refl, tt)); none_refused = (tt, (tt, tt)) };
    is = refl;
  });
  refused = inr (record {
    past = 2;
    rest = 120 ∷ 10 ∷ 51 ∷ 52 ∷ 53 ∷ [];
    front = record {
      begins = (
        120 ∷ 10 ∷ 51 ∷ 52 ∷ 53 ∷ [],
        2,
        inl (record { split = refl; plain = plain_by (codes "1") refl; short = omega arith; within = omega arith }),
        refl,
        (refl, refl),
      );
      answered = record { each = (refl, tt); none_refused = (tt, tt) };
    };
    one = codes "x";
    after = 51 ∷ 52 ∷ 53 ∷ [];
    next = inl (record { split = refl; plain = plain_by (codes "x") refl; short = omega arith; within = omega arith });
    fault = 1;
    answer = refl;
    is = refl;
  });
  both = inl (record {
    end = input_too_long;
    lined = fed 4 6 0 (codes "1") (codes "23456") [] input_too_long refl (omega arith) (omega arith)
        (limit_over 4 6 2 (codes "2345") 54 [] refl (omega arith) refl);
    answered = record { each = (refl, tt); none_refused = (tt, tt) };
    is = refl;
  });
}
