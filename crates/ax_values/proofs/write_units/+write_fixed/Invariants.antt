use Rattle.std.proofs.Common.{drop}
use Rattle.ax_format.specs.Canonical.{members_canon}
use Rattle.ax_format.specs.Plain.{members_tree, values_tree}
use Rattle.ax_values.proofs.Written.{MembersLeft}
use Rattle.ax_values.proofs.write_units.+write_fixed.Given as goal

abbrev pub invariant-write_members-loop-value : goal.invariant-write_members-loop-value
invariant-write_members-loop-value l =
    MembersLeft l.fn.out l.out (members_canon (members_tree l.members) (values_tree l.values)) l.rest (drop l.value-index l.value-items)
