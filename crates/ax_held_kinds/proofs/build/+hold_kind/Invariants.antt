use Rattle.std.proofs.Common.{◌≡◌, length, map, take}
use Rattle.ax_held_kinds.specs.Held.{held_slot}
use Rattle.ax_format.specs.Plain.{slot_tree}
use Rattle.ax_held_kinds.proofs.build.+hold_kind.Given as goal

abbrev pub invariant-hold_slots-loop-slot : goal.invariant-hold_slots-loop-slot
invariant-hold_slots-loop-slot l =
    (length l.made ≡ l.slot-index) × (map held_slot l.made ≡ map slot_tree (take l.slot-index l.slots))
