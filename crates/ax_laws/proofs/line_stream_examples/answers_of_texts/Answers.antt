use Rattle.std.proofs.Common.{[], ◌∷◌, refl, sym, ◌∙◌, arith, codes, inl, inr}
use Rattle.ax_lines.specs.Lined.{all_lines, line_too_long}
use Rattle.ax_lines.proofs.Plain.{plain_by, fed, last, line_over}
use Rattle.ax_laws.proofs.line_stream_examples.answers_of_texts.Goals as goal

pub returns : goal.returns
returns c = record {
  one = λ number octets a b h k. h ∙ sym k;
  answered = record { each = (refl, (refl, (refl, tt))); none_refused = (tt, (tt, (tt, tt))) };
  results = refl;
  output = refl;
  done = inl (record {
    end = all_lines;
    lined = fed 4 100 0 (codes "1") (10 ∷ 50 ∷ []) ([] ∷ codes "2" ∷ []) all_lines refl (omega arith) (omega arith)
        (fed 4 100 2 [] (50 ∷ []) (codes "2" ∷ []) all_lines refl (omega arith) (omega arith) (last 4 100 3 (codes "2") refl (omega arith) (omega arith) (omega arith)));
    answered = record { each = (refl, (refl, (refl, tt))); none_refused = (tt, (tt, (tt, tt))) };
    is = refl;
  });
  refused = inr (record {
    past = 3;
    rest = 120 ∷ 10 ∷ 50 ∷ [];
    front = record {
      begins = (
        10 ∷ 120 ∷ 10 ∷ 50 ∷ [],
        2,
        inl (record { split = refl; plain = plain_by (codes "1") refl; short = omega arith; within = omega arith }),
        refl,
        (120 ∷ 10 ∷ 50 ∷ [], 1, inl (record { split = refl; plain = tt; short = omega arith; within = omega arith }), refl, (refl, refl)),
      );
      answered = record { each = (refl, (refl, tt)); none_refused = (tt, (tt, tt)) };
    };
    one = codes "x";
    after = 50 ∷ [];
    next = inl (record { split = refl; plain = plain_by (codes "x") refl; short = omega arith; within = omega arith });
    fault = 2;
    answer = refl;
    is = refl;
  });
  too_long = inl (record {
    end = line_too_long;
    lined = fed 1 100 0 (codes "1") (10 ∷ 50 ∷ 51 ∷ []) ([] ∷ []) line_too_long refl (omega arith) (omega arith)
        (fed 1 100 2 [] (50 ∷ 51 ∷ []) [] line_too_long refl (omega arith) (omega arith) (line_over 1 100 3 (codes "2") 51 [] refl refl refl (omega arith)));
    answered = record { each = (refl, (refl, tt)); none_refused = (tt, (tt, tt)) };
    is = refl;
  });
}
