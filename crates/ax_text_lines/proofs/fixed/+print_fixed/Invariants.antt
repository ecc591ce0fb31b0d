use Rattle.ax_bits.specs.Bits.{bits}
use Rattle.ax_text_lines.proofs.FixedPrinted.{MembersPrinted}
use Rattle.ax_text_lines.proofs.fixed.+print_fixed.Given as goal

abbrev pub invariant-print_members-loop-member : goal.invariant-print_members-loop-member
invariant-print_members-loop-member l = MembersPrinted l.members l.member-index (bits l.body) l.fn.at l.at l.fn.line.octets l.line.octets
