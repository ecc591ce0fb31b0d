use Rattle.ax_expressions.proofs.Once.{one_expression}
use Rattle.ax_laws.proofs.filter.expression_once.Goals as goal

pub returns : goal.returns
returns c = one_expression
