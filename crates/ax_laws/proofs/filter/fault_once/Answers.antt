use Rattle.ax_expressions.proofs.Once.{one_fault, no_fault}
use Rattle.ax_laws.proofs.filter.fault_once.Goals as goal

pub returns : goal.returns
returns c = record { one = one_fault; none = no_fault }
