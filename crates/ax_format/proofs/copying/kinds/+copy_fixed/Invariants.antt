use Rattle.std.proofs.Common.{◌≡◌, length, map, take}
use Rattle.ax_format.specs.Plain.{member_tree}
use Rattle.ax_format.proofs.copying.kinds.+copy_fixed.Given as goal

abbrev pub invariant-copy_members-loop-member : goal.invariant-copy_members-loop-member
invariant-copy_members-loop-member l =
    (length l.made ≡ l.member-index) × (map member_tree l.made ≡ map member_tree (take l.member-index l.members))
