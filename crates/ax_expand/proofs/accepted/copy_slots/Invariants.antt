use Rattle.std.proofs.Common.{◌≡◌, length, map, take}
use Rattle.ax_format.specs.Plain.{slot_tree}
use Rattle.ax_expand.proofs.accepted.copy_slots.Given as goal

abbrev pub invariant-loop-slot : goal.invariant-loop-slot
invariant-loop-slot l =
    (length l.made ≡ l.slot-index) × (map slot_tree l.made ≡ map slot_tree (take l.slot-index l.slots))
