use Rattle.std.proofs.Common.{[], ◌∷◌, refl, arith, codes}
use Rattle.ax_lines.specs.Lined.{all_lines}
use Rattle.ax_lines.proofs.Plain.{fed, last}
use Rattle.ax_laws.proofs.lines_examples.lines_of_texts.Goals as goal

pub returns : goal.returns
returns c = record {
  none = refl;
  one = fed 4 100 0 (codes "abcd") [] [] all_lines refl (omega arith) (omega arith) refl;
  empty = fed 4 100 0 (codes "a") (10 ∷ codes "bc") ([] ∷ codes "bc" ∷ []) all_lines refl (omega arith) (omega arith)
      (fed 4 100 2 [] (codes "bc") (codes "bc" ∷ []) all_lines refl (omega arith) (omega arith) (last 4 100 3 (codes "bc") refl (omega arith) (omega arith) (omega arith)));
  returned = fed 4 100 0 (97 ∷ 13 ∷ []) [] [] all_lines refl (omega arith) (omega arith) refl;
}
