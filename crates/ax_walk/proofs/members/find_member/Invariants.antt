use Rattle.std.proofs.Common.{length}
use Rattle.ax_walk.proofs.MemberSteps.{MembersLeft}
use Rattle.ax_walk.proofs.members.find_member.Given as goal

abbrev pub invariant-loop-member : goal.invariant-loop-member
invariant-loop-member l = record { members : MembersLeft l.nodes l.members l.left l.at l.here l.index l.number }

abbrev pub decreases-loop-member : goal.decreases-loop-member
decreases-loop-member l = length l.left
