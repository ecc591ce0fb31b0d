use Rattle.std.proofs.Common.{◌≡◌, map, take}
use Rattle.ax_edition.specs.Index.{seen_kind}
use Rattle.ax_edition.specs.SlotItems.{item_slot}
use Rattle.ax_format.specs.Lengths.{kind_of_slot}
use Rattle.ax_edition.proofs.index.kinds_of_items.Given as goal

abbrev pub invariant-loop-item : goal.invariant-loop-item
invariant-loop-item l = map seen_kind l.kinds ≡ map (λ s. kind_of_slot (item_slot s)) (take l.item-index l.items)
