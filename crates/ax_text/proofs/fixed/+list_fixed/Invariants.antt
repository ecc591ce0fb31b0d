use Rattle.ax_format.specs.Plain.{members_tree, values_tree}
use Rattle.ax_text_form.specs.ShowText.{members_lines}
use Rattle.ax_text.proofs.ListedMembers.{MembersLeft}
use Rattle.ax_text.proofs.fixed.+list_fixed.Given as goal

abbrev pub invariant-list_members-loop-member : goal.invariant-list_members-loop-member
invariant-list_members-loop-member l = MembersLeft l.path (members_lines (members_tree l.members) l.path (values_tree l.values)) l.fn.lister.out.octets l.lister.out.octets l.member-iterator.a.rest.now l.member-iterator.b.rest.now
