-- The slots of a record, and the items that the code looks up.
use Rattle.std.proofs.Common.{◌≡◌, ℕ, Bool, true, false, cond, List, [], ◌∷◌, map, Option, Some, refl, ap}
use Rattle.std.specs.Option.{option_map}
use Rattle.std.specs.Str.{bytes_eq}
use Rattle.ax_format.specs.Lookup.{item_named, item_of_slot}
use Rattle.ax_format.specs.Plain.{item_tree}
use Rattle.ax_format.specs.Specification.{ItemTree, first_named, slot_of_item, uap_slot}
use Rattle.ax_format.specs.declared.spec.Item.{Item}
use Rattle.ax_format.specs.declared.spec.UapSlot.{UapSlot}
use Rattle.ax_format.specs.declared.spec.UapSlot.TheVariants as Uap

found_tree : (b : Bool) (item : Item) (o : Option Item) (p : Option ItemTree) → p ≡ option_map item_tree o → cond b (Some (item_tree item)) p ≡ option_map item_tree (cond b (Some item) o)
found_tree true item o p e = refl
found_tree false item o p e = e

-- the first item of a name, as a tree
pub named_tree : (name : List ℕ) (items : List Item) → first_named name (map item_tree items) ≡ option_map item_tree (item_named name items)
named_tree name [] = refl
named_tree name (item ∷ items) =
    found_tree (bytes_eq item.name name) item (item_named name items) (first_named name (map item_tree items)) (named_tree name items)

-- a slot of the UAP is that of the item that the code finds for it
pub uap_slot_tree : (items : List Item) (slot : UapSlot) → uap_slot (map item_tree items) slot ≡ slot_of_item (option_map item_tree (item_of_slot (Some slot) items))
uap_slot_tree items Uap.Spare = refl
uap_slot_tree items (Uap.Item name) = ap slot_of_item (named_tree name items)
