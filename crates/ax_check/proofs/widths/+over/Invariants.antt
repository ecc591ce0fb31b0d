use Rattle.std.proofs.Common.{◌≡◌, ◌+◌, ◌%◌, ◌<◌, drop}
use Rattle.ax_format.specs.Plain.{members_tree}
use Rattle.ax_format.specs.Widths.{members_width}
use Rattle.ax_check.proofs.widths.+over.Given as goal

abbrev pub invariant-bits_over_members-loop-member : goal.invariant-bits_over_members-loop-member
invariant-bits_over_members-loop-member l =
    ((l.over + members_width (members_tree (drop l.member-index l.members))) % 8 ≡ members_width (members_tree l.members) % 8) × (l.over < 8)
