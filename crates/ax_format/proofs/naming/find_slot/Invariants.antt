use Rattle.std.proofs.Common.{◌≡◌, ◌+◌, drop}
use Rattle.ax_format.specs.Plain.{slots_tree}
use Rattle.ax_format.specs.Naming.{slot_named}
use Rattle.ax_format.proofs.naming.find_slot.Given as goal

abbrev pub invariant-loop-slot : goal.invariant-loop-slot
invariant-loop-slot l =
    (l.before ≡ l.slot-index) × (slot_named (l.before + 1) l.name (slots_tree (drop l.slot-index l.slots)) ≡ slot_named 1 l.name (slots_tree l.slots))
