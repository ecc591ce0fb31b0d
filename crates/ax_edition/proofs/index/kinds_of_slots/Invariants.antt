use Rattle.std.proofs.Common.{◌≡◌, map, take}
use Rattle.ax_edition.specs.Index.{seen_kind}
use Rattle.ax_format.specs.Lengths.{kind_of_slot}
use Rattle.ax_format.specs.Plain.{slot_tree}
use Rattle.ax_edition.proofs.index.kinds_of_slots.Given as goal

abbrev pub invariant-loop-slot : goal.invariant-loop-slot
invariant-loop-slot l = map seen_kind l.kinds ≡ map (λ s. kind_of_slot (slot_tree s)) (take l.slot-index l.slots)
