use Rattle.std.proofs.Common.{◌≡◌, length, drop}
use Rattle.ax_format.specs.Plain.{members_tree, values_tree}
use Rattle.ax_rescale.proofs.GroupSteps.{MembersGo}
use Rattle.ax_rescale.proofs.fixed_values.+convert_fixed.Given as goal

abbrev pub invariant-convert_members-loop-member : goal.invariant-convert_members-loop-member
invariant-convert_members-loop-member l =
    (length l.made ≡ l.member-index)
    × MembersGo (members_tree l.old) (members_tree l.new) (values_tree l.values) l.made (drop l.member-index l.member-items) l.others l.rest
