use Rattle.std.proofs.Common.{◌≡◌, length, map, take}
use Rattle.ax_format.specs.Plain.{slot_tree}
use Rattle.ax_format.proofs.copying.kinds.+copy_kind.Given as goal

abbrev pub invariant-copy_slots-loop-slot : goal.invariant-copy_slots-loop-slot
invariant-copy_slots-loop-slot l =
    (length l.made ≡ l.slot-index) × (map slot_tree l.made ≡ map slot_tree (take l.slot-index l.slots))
