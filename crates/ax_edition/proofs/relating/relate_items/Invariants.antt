use Rattle.std.proofs.Common.{◌≡◌, ◌+◌, ◌++◌, [], drop}
use Rattle.ax_edition.specs.Relating.{lead, related_slots}
use Rattle.ax_edition.specs.SlotItems.{items_tree}
use Rattle.ax_edition.proofs.relating.relate_items.Given as goal

abbrev pub invariant-loop-item : goal.invariant-loop-item
invariant-loop-item l =
    (l.before ≡ l.item-index) × (l.keys.paths ++ related_slots l.way.text [] (l.before + 1) (items_tree (drop l.item-index l.items)) (lead l.level) ≡ related_slots l.way.text [] 1 (items_tree l.items) (lead l.level))
