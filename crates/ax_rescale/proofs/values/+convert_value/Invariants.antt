use Rattle.std.proofs.Common.{◌≡◌, ◌+◌, ◌*◌, ◌≤◌, length, drop}
use Rattle.ax_format.specs.Plain.{kind_tree, slot_tree, slots_tree, values_tree, entries_tree}
use Rattle.ax_format.specs.Shape.{Shape}
use Rattle.ax_rescale.specs.Converted.{Converted}
use Rattle.ax_rescale.proofs.EachSteps.{EachGo}
use Rattle.ax_rescale.proofs.EntrySteps.{EntriesGo}
use Rattle.ax_rescale.proofs.Weights.{weight, slot_weight, weights}
use Rattle.ax_rescale.proofs.values.+convert_value.Given as goal

abbrev pub decreases-convert_value : goal.decreases-convert_value
decreases-convert_value l = 2 * weight (kind_tree l.old.now)

abbrev pub decreases-convert_each : goal.decreases-convert_each
decreases-convert_each l = 2 * weight (kind_tree l.old.now) + 1

abbrev pub decreases-convert_slots : goal.decreases-convert_slots
decreases-convert_slots l = 2 * weights (slots_tree l.old.now) + 1

abbrev pub decreases-convert_slot : goal.decreases-convert_slot
decreases-convert_slot l = 2 * slot_weight (slot_tree l.slots.old.now)

abbrev pub invariant-convert_each-loop-value : goal.invariant-convert_each-loop-value
invariant-convert_each-loop-value l =
    (length l.made ≡ l.value-index)
    × EachGo (Shape (kind_tree l.old)) (Converted (kind_tree l.old) (kind_tree l.new)) (values_tree l.values) l.made (drop l.value-index l.value-items)

abbrev pub invariant-convert_slots-loop-slot : goal.invariant-convert_slots-loop-slot
invariant-convert_slots-loop-slot l =
    (length l.made ≤ l.slot-index)
    × (l.number ≡ l.slot-index + 1)
    × EntriesGo (slots_tree l.old) (slots_tree l.new) (entries_tree l.entries) l.made l.number (drop l.slot-index l.slot-items) l.others l.rest
