use Rattle.std.proofs.Common.{rules}
use Rattle.ax_format.specs.Plain.{members_tree, values_tree}
use Rattle.ax_text_form.specs.ShowText.{members_lines}
use Rattle.ax_text.proofs.ListedMembers.{member_next}
use Rattle.ax_text.proofs.fixed.+list_fixed.Goals as goal

pub list_members-loop-member-preserved : goal.list_members-loop-member-preserved
list_members-loop-member-preserved t c =
    let steps = c.in-Some.ensures.steps in
    member_next c.args.path.now (members_lines (members_tree c.args.members.now) c.args.path.now (values_tree c.args.values.now)) c.args.lister.now.out.octets c.loop-member.lister.out.octets c.list_member.new.lister.out.octets c.in-Some.member.now
    c.loop-member.member-iterator.a.rest.now c.next.new.self.a.rest.now c.in-Some.value.now c.loop-member.member-iterator.b.rest.now c.next.new.self.b.rest.now c.loop-member.invariant steps.0 steps.1 (search rules)
