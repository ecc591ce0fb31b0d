use Rattle.std.proofs.Common.{rules}
use Rattle.ax_expressions.proofs.Leads.{fine_element, fine_other}
use Rattle.ax_expressions.proofs.faults.fault_of.Goals as goal

pub returns-in-ToElement : goal.returns-in-ToElement
returns-in-ToElement c = fine_element _ _ _ (rw c.in-ToElement.is at c.in_ok-lead_of.ensures)

pub returns-else-after_is : goal.returns-else-after_is
returns-else-after_is c = fine_other _ _ _ (search rules) (rw c.in-ToOther.is at c.in_ok-lead_of.ensures)
