use Rattle.std.proofs.Common.{◌≡◌, drop}
use Rattle.ax_format.specs.Plain.{members_tree}
use Rattle.ax_format.specs.Naming.{member_named}
use Rattle.ax_format.proofs.naming.find_member.Given as goal

abbrev pub invariant-loop-member : goal.invariant-loop-member
invariant-loop-member l =
    (l.number ≡ l.member-index) × (member_named l.number l.name (members_tree (drop l.member-index l.members)) ≡ member_named 0 l.name (members_tree l.members))
