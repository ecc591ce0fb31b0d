use Rattle.std.proofs.Common.{◌≡◌, ◌+◌, ◌*◌, take}
use Rattle.ax_format.proofs.copying.values.+copy.Given as goal

abbrev pub invariant-copy_entries-loop-entry : goal.invariant-copy_entries-loop-entry
invariant-copy_entries-loop-entry l = l.made ≡ take l.entry-index l.entries

abbrev pub invariant-copy_lists-loop-values : goal.invariant-copy_lists-loop-values
invariant-copy_lists-loop-values l = l.made ≡ take l.values-index l.lists

abbrev pub invariant-copy_values-loop-value : goal.invariant-copy_values-loop-value
invariant-copy_values-loop-value l = l.made ≡ take l.value-index l.values

abbrev pub decreases-copy_value : goal.decreases-copy_value
decreases-copy_value l = 3 * goal.size-copy_value l

abbrev pub decreases-copy_values : goal.decreases-copy_values
decreases-copy_values l = 3 * goal.size-copy_values l + 1

abbrev pub decreases-copy_entries : goal.decreases-copy_entries
decreases-copy_entries l = 3 * goal.size-copy_entries l + 1

abbrev pub decreases-copy_lists : goal.decreases-copy_lists
decreases-copy_lists l = 3 * goal.size-copy_lists l + 2
