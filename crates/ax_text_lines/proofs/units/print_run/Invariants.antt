use Rattle.std.proofs.Common.{◌-◌, length}
use Rattle.ax_format.specs.Plain.{fixed_tree}
use Rattle.ax_text_lines.proofs.Repeated.{RunLeads}
use Rattle.ax_text_lines.proofs.units.print_run.Given as goal

abbrev pub invariant-loop-end : goal.invariant-loop-end
invariant-loop-end l = RunLeads (fixed_tree l.fixed.fixed.now) l.body l.at l.here l.fn.line.octets l.line.octets

abbrev pub decreases-loop-end : goal.decreases-loop-end
decreases-loop-end l = length l.body - l.here
