use Rattle.std.proofs.Common.{length, map}
use Rattle.ax_fspec.specs.Marks.{slots_of}
use Rattle.ax_text_lines.specs.HeldText.{text_kind, text_slot}
use Rattle.ax_text_lines.proofs.Counted.{CountedLeads}
use Rattle.ax_text_lines.proofs.Marked.{MarksLead}
use Rattle.ax_text_lines.proofs.kinds.+print_kind.Given as goal

abbrev pub invariant-print_marked-loop-number : goal.invariant-print_marked-loop-number
invariant-print_marked-loop-number l = MarksLead (map text_slot l.slots) l.marked l.left l.body l.at l.here l.fn.line.octets l.line.octets

abbrev pub decreases-print_marked-loop-number : goal.decreases-print_marked-loop-number
decreases-print_marked-loop-number l = length (slots_of l.left)

abbrev pub invariant-print_counted-loop : goal.invariant-print_counted-loop
invariant-print_counted-loop l = CountedLeads l.fn.size (text_kind l.inner) l.body l.count l.counter l.at l.here l.fn.line.octets l.line.octets
