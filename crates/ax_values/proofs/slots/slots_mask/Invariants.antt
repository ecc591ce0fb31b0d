use Rattle.std.proofs.Common.{◌≡◌, map}
use Rattle.ax_format.specs.Plain.{slot_tree}
use Rattle.ax_fspec.proofs.Marking.{MaskSoFar}
use Rattle.ax_values.proofs.slots.slots_mask.Given as goal

abbrev pub invariant-loop-slot : goal.invariant-loop-slot
invariant-loop-slot l = record { number : l.number ≡ l.slot-index; mask : MaskSoFar (map slot_tree l.slots) l.slot-index l.defined }
