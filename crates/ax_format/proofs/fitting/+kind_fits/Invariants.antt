use Rattle.std.proofs.Common.{◌≡◌, ◌+◌, drop}
use Rattle.ax_format.specs.Fitting.{each_fits, kind_fits, entries_fit}
use Rattle.ax_format.specs.Plain.{kind_tree, values_tree, slots_tree, entries_tree}
use Rattle.ax_format.proofs.fitting.+kind_fits.Given as goal

abbrev pub invariant-fits_each-loop-value : goal.invariant-fits_each-loop-value
invariant-fits_each-loop-value l = each_fits (kind_fits (kind_tree l.kind)) (values_tree l.values) ≡ each_fits (kind_fits (kind_tree l.kind)) (values_tree (drop l.value-index l.values))

abbrev pub invariant-fits_slots-loop-slot : goal.invariant-fits_slots-loop-slot
invariant-fits_slots-loop-slot l =
    (l.number ≡ l.slot-index + 1)
    × (entries_fit 1 (slots_tree l.slots) (entries_tree l.entries) ≡ entries_fit l.number (slots_tree (drop l.slot-index l.slot-items)) (entries_tree l.rest))
