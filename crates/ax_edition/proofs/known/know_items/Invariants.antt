use Rattle.std.proofs.Common.{[], take}
use Rattle.ax_edition.specs.Known.{kind_found, known_slots}
use Rattle.ax_relation.specs.Known.{Knows}
use Rattle.ax_edition.specs.SlotItems.{items_tree}
use Rattle.ax_edition.proofs.known.know_items.Given as goal

abbrev pub invariant-loop-item : goal.invariant-loop-item
invariant-loop-item l = Knows (known_slots [] (items_tree (take l.item-index l.items)) (kind_found l.index)) l.known
