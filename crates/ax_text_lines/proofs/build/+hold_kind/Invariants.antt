use Rattle.std.proofs.Common.{◌≡◌, length, map, take}
use Rattle.ax_text_lines.specs.HeldText.{text_slot}
use Rattle.ax_format.specs.Plain.{slot_tree}
use Rattle.ax_text_lines.proofs.build.+hold_kind.Given as goal

abbrev pub invariant-hold_slots-loop-slot : goal.invariant-hold_slots-loop-slot
invariant-hold_slots-loop-slot l =
    (length l.made ≡ l.slot-index) × (map text_slot l.made ≡ map slot_tree (take l.slot-index l.slots))
