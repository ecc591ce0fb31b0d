use Rattle.ax_laws.proofs.MemberPresence.{group_member, part_member, unmarked_absent}
use Rattle.ax_laws.proofs.presence.members_are_present_with_their_item.Goals as goal

pub returns : goal.returns
returns c = record { group = group_member; part = part_member; absent = unmarked_absent }
