use Rattle.std.proofs.Common.{refl, arith}
use Rattle.ax_expressions.proofs.Signs.{all_within}
use Rattle.ax_expressions.proofs.comparing.is_within.Goals as goal

pub returns-then-width-ge128 : goal.returns-then-width-ge128
returns-then-width-ge128 c = ((λ _. all_within c.args.width c.args.value (omega arith) (omega arith)), (λ _. refl))
