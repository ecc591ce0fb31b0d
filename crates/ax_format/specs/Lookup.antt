-- Items by name and by field reference number.
use Rattle.std.specs.Prelude.{ℕ, zero, suc, List, Option, Some, None, slice_get}
use Rattle.std.specs.List.{find}
use Rattle.std.specs.Str.{bytes_eq}
use Rattle.ax_format.specs.declared.spec.Item.{Item}
use Rattle.ax_format.specs.declared.spec.UapSlot.{UapSlot}
use Rattle.ax_format.specs.declared.spec.UapSlot.TheVariants as Uap

-- the first item of that name
abbrev pub item_named : List ℕ → List Item → Option Item
item_named name items = find (λ item. bytes_eq item.name name) items

-- the item of a slot of the UAP, where there is such a slot and it isn't spare
abbrev pub item_of_slot : Option UapSlot → List Item → Option Item
item_of_slot None items = None
item_of_slot (Some Uap.Spare) items = None
item_of_slot (Some (Uap.Item name)) items = item_named name items

-- the item of a field reference number, which is the slot's number from 1 (FSPEC and UAP)
abbrev pub item_of_frn : ℕ → List UapSlot → List Item → Option Item
item_of_frn zero slots items = None
item_of_frn (suc before) slots items = item_of_slot (slice_get slots before) items
