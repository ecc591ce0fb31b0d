-- Where the items of a UAP stand among a specification's items.
use Rattle.std.specs.Prelude.{ℕ, List, length, map}
use Rattle.std.specs.List.{position_or_len}
use Rattle.std.specs.Str.{bytes_eq}
use Rattle.ax_format.specs.declared.spec.Item.{Item}
use Rattle.ax_format.specs.declared.spec.UapSlot.{UapSlot}
use Rattle.ax_format.specs.declared.spec.UapSlot.TheVariants as Uap

-- the place of a slot's item, the first of its name, from 0; the number of items where there is none
abbrev pub place_of_slot : List Item → UapSlot → ℕ
place_of_slot items Uap.Spare = length items
place_of_slot items (Uap.Item name) = position_or_len (λ item. bytes_eq item.name name) items

abbrev pub uap_places : List UapSlot → List Item → List ℕ
uap_places slots items = map (place_of_slot items) slots
