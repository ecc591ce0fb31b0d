use Rattle.std.proofs.Common.{◌≡◌, length, map, take}
use Rattle.ax_format.specs.Plain.{item_tree}
use Rattle.ax_format.proofs.copying.specs.copy_items.Given as goal

abbrev pub invariant-loop-item : goal.invariant-loop-item
invariant-loop-item l = (length l.made ≡ l.item-index) × (map item_tree l.made ≡ map item_tree (take l.item-index l.items))
