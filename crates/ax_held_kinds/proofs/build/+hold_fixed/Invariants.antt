use Rattle.std.proofs.Common.{◌≡◌, length, map, take}
use Rattle.ax_held_kinds.specs.HeldFixed.{held_member}
use Rattle.ax_format.specs.Plain.{member_tree}
use Rattle.ax_held_kinds.proofs.build.+hold_fixed.Given as goal

abbrev pub invariant-hold_members-loop-member : goal.invariant-hold_members-loop-member
invariant-hold_members-loop-member l =
    (length l.made ≡ l.member-index) × (map held_member l.made ≡ map member_tree (take l.member-index l.members))
