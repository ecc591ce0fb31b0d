-- The items of the slots of the user application profile (UAP), as slots.
use Rattle.std.specs.Prelude.{List, map, Option, Some, None}
use Rattle.std.specs.Borrow.{Bor}
use Rattle.ax_format.specs.Plain.{kind_tree}
use Rattle.ax_format.specs.Tree.{SlotTree, spare_slot, subitem, SlotsTree, slots_of}
use Rattle.ax_format.specs.declared.spec.Item.{Item}

abbrev pub item_slot : Option (Bor Item) → SlotTree
item_slot None = spare_slot
item_slot (Some item) = subitem item.now.name (kind_tree item.now.kind)

abbrev pub items_tree : List (Option (Bor Item)) → SlotsTree
items_tree items = slots_of (map item_slot items)
