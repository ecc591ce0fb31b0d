use Rattle.std.proofs.Common.{◌-◌, length}
use Rattle.ax_format.specs.Plain.{spec_tree}
use Rattle.ax_text_lines.proofs.RecordsPrinted.{RecordsPrinted}
use Rattle.ax_text_lines.proofs.blocks.print_body.Given as goal

abbrev pub invariant-loop-at : goal.invariant-loop-at
invariant-loop-at l = RecordsPrinted (spec_tree l.items) l.body l.at l.fn.line.octets l.line.octets

abbrev pub decreases-loop-at : goal.decreases-loop-at
decreases-loop-at l = length l.body - l.at
