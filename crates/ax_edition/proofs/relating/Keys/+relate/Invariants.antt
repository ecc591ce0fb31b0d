use Rattle.std.proofs.Common.{◌≡◌, ◌+◌, ◌++◌, drop}
use Rattle.ax_edition.specs.Relating.{lead, related_slots}
use Rattle.ax_format.specs.Plain.{slots_tree}
use Rattle.ax_edition.proofs.relating.Keys.+relate.Given as goal

abbrev pub invariant-add_slots-loop-slot : goal.invariant-add_slots-loop-slot
invariant-add_slots-loop-slot l =
    (l.before ≡ l.slot-index)
    × (l.self.paths ++ related_slots l.way.text l.way.numbers (l.before + 1) (slots_tree (drop l.slot-index l.slots)) (lead l.level) ≡ l.fn.self.paths ++ related_slots l.way.text l.way.numbers 1 (slots_tree l.slots) (lead l.level))
