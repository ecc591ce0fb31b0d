use Rattle.ax_vectors.proofs.Left.{MembersLeft}
use Rattle.ax_vectors.proofs.fixed.+make_fixed.Given as goal

abbrev pub invariant-make_members-loop-member : goal.invariant-make_members-loop-member
invariant-make_members-loop-member l = MembersLeft l.members l.member-index l.fn.into l.into l.fn.draws l.draws
