use Rattle.std.proofs.Common.{◌≡◌, ◌≤◌, ◌+◌, drop}
use Rattle.ax_format.specs.Lengths.{capped}
use Rattle.ax_format.specs.Plain.{members_tree}
use Rattle.ax_format.specs.Widths.{members_width}
use Rattle.ax_format.proofs.width.+width.Given as goal

abbrev pub invariant-width_of_members-loop-member : goal.invariant-width_of_members-loop-member
invariant-width_of_members-loop-member l =
    (capped (l.total + members_width (members_tree (drop l.member-index l.members))) ≡ capped (members_width (members_tree l.members))) × (l.total ≤ 18446744073709551615)
