use Rattle.ax_bits.specs.Bits.{bits}
use Rattle.ax_values.proofs.FixedRead.{MembersSoFar}
use Rattle.ax_values.proofs.fixed.+fixed.Given as goal

abbrev pub invariant-decode_members-loop-member : goal.invariant-decode_members-loop-member
invariant-decode_members-loop-member l = MembersSoFar l.members l.member-index l.made (bits l.body) l.fn.at l.at
