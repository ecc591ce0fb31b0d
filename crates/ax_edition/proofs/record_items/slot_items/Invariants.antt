use Rattle.std.proofs.Common.{◌≡◌, map, take}
use Rattle.ax_edition.specs.SlotItems.{item_slot}
use Rattle.ax_format.specs.Plain.{item_tree}
use Rattle.ax_format.specs.Specification.{uap_slot}
use Rattle.ax_edition.proofs.record_items.slot_items.Given as goal

abbrev pub invariant-loop-slot : goal.invariant-loop-slot
invariant-loop-slot l = map item_slot l.made ≡ map (uap_slot (map item_tree l.spec.items)) (take l.slot-index l.spec.uap)
