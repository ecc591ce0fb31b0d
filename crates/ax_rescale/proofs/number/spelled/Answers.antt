use Rattle.std.proofs.Common.{arith}
use Rattle.std.proofs.lemmas.Grind.{common_steps}
use Rattle.ax_rescale.proofs.number.spelled.Goals as goal

pub overflow_cast-result-then-meant-lt0 : goal.overflow_cast-result-then-meant-lt0
overflow_cast-result-then-meant-lt0 c = grind (arith, common_steps)

pub returns-then-half-meant-clause-none : goal.returns-then-half-meant-clause-none
returns-then-half-meant-clause-none c = grind (arith, common_steps)

pub returns-then-meant-lt0-clause-some : goal.returns-then-meant-lt0-clause-some
returns-then-meant-lt0-clause-some c = grind (arith, common_steps)

pub returns-else-meant-lt0-clause-some : goal.returns-else-meant-lt0-clause-some
returns-else-meant-lt0-clause-some c = grind (arith, common_steps)
