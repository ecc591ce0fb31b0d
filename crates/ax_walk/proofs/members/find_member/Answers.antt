use Rattle.ax_walk.proofs.MemberSteps.{members_next}
use Rattle.ax_walk.proofs.members.find_member.Goals as goal

pub loop-member-preserved : goal.loop-member-preserved
loop-member-preserved c = record {
  members = members_next c.args.nodes.now c.args.members.now c.loop-member.left.now c.in-Some.later.now c.in-Some.member.now c.args.at c.loop-member.here c.args.index c.loop-member.number c.loop-member.invariant.members c.in-Some.ensures.cases.0
      c.fixed_width-here.result c.if-number-eq0.false c.fixed_width-here.ensures;
}
