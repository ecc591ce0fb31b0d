use Rattle.std.proofs.Common.{[], refl, arith, codes}
use Rattle.ax_lines.specs.Lined.{input_too_long, line_too_long}
use Rattle.ax_lines.proofs.Plain.{fed, line_over, limit_over}
use Rattle.ax_laws.proofs.lines_examples.ends_of_lines.Goals as goal

pub returns : goal.returns
returns c = record {
  line = line_over 4 100 0 (codes "abcd") 101 [] refl refl refl (omega arith);
  both = limit_over 4 4 0 (codes "abcd") 101 [] refl (omega arith) refl;
  feed = limit_over 4 4 0 (codes "abcd") 10 [] refl (omega arith) refl;
  second = fed 4 7 0 (codes "a") (codes "bcdef") [] line_too_long refl (omega arith) (omega arith) (line_over 4 7 2 (codes "bcde") 102 [] refl refl refl (omega arith));
  sooner = fed 4 6 0 (codes "a") (codes "bcdef") [] input_too_long refl (omega arith) (omega arith) (limit_over 4 6 2 (codes "bcde") 102 [] refl (omega arith) refl);
}
