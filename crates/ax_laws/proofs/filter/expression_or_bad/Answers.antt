use Rattle.ax_laws.proofs.ExpressionsRead.{expr_or_bad}
use Rattle.ax_laws.proofs.filter.expression_or_bad.Goals as goal

pub returns : goal.returns
returns c = expr_or_bad
