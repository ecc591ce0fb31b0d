-- Slots of the code, one after another, as slots of trees, and the item of a slot of the UAP.
use Rattle.std.proofs.Common.{◌≡◌, ℕ, ◌+◌, ◌<◌, ◌≤◌, List, ◌∷◌, sym, ◌∙◌, ap, subst, length, drop, get_or, map, Some}
use Rattle.std.proofs.lemmas.List.{drop_all}
use Rattle.ax_format.proofs.RecordFitting.{item_is}
use Rattle.ax_format.specs.Lookup.{item_of_slot}
use Rattle.ax_format.specs.Plain.{item_tree, kind_tree, slot_tree, slots_tree}
use Rattle.ax_format.specs.Specification.{uap_slot}
use Rattle.ax_format.specs.Tree.{SlotsTree, no_slots, slot_and, subitem, slots_of}
use Rattle.ax_format.specs.declared.kind.Slot.{Slot}
use Rattle.ax_format.specs.declared.spec.Item.{Item}
use Rattle.ax_format.specs.declared.spec.UapSlot.{UapSlot}
use Rattle.ax_format.specs.declared.spec.UapSlot.TheVariants as Uap
use Rattle.ax_text_form.proofs.Printed.{from_place}
use Rattle.ax_text_form.proofs.Readables.{HasName, found_named}
use Rattle.ax_text_form.specs.ValueText.{Texts}

-- ---- slots of a compound

pub slots_from : (slots : List Slot) (i : ℕ) (slot : Slot) → i < length slots → slot ≡ get_or slots i slot → slots_tree (drop i slots) ≡ slot_and (slot_tree slot) (slots_tree (drop (i + 1) slots))
slots_from slots i slot lt at = ap slots_tree (from_place slots i slot lt at)

pub slots_past : (slots : List Slot) (i : ℕ) → length slots ≤ i → slots_tree (drop i slots) ≡ no_slots
slots_past slots i le = ap slots_tree (drop_all i slots le)

-- ---- slots of the UAP

pub slot_has : (items : List Item) (slot : UapSlot) (name : List ℕ) → slot ≡ Uap.Item name → HasName name (uap_slot (map item_tree items) slot)
slot_has items slot name e = subst (λ s. HasName name (uap_slot (map item_tree items) s)) (sym e) (found_named name (map item_tree items))

pub item_there : (items : List Item) (slot : UapSlot) (item : Item) → item_of_slot (Some slot) items ≡ Some item → uap_slot (map item_tree items) slot ≡ subitem item.name (kind_tree item.kind)
item_there items slot item e = item_is items slot item e

pub name_there : (items : List Item) (slot : UapSlot) (item : Item) (name word text : List ℕ) (texts new : Texts) → slot ≡ Uap.Item name → word ≡ name → item_of_slot (Some slot) items ≡ Some item → texts ≡ text ∷ drop 1 texts → text ≡ word → new ≡ drop 1 texts → texts ≡ item.name ∷ new
name_there items slot item name word text texts new e same found is h n =
    let has : item.name ≡ name = subst (HasName name) (item_is items slot item found) (slot_has items slot name e) in
    is ∙ (λ i. (h ∙ same ∙ sym has) i ∷ sym n i)

abbrev pub slots_of_uap : List Item → List UapSlot → SlotsTree
slots_of_uap items uap = slots_of (map (uap_slot (map item_tree items)) uap)

pub uap_from : (items : List Item) (uap : List UapSlot) (i : ℕ) (slot : UapSlot) → i < length uap → slot ≡ get_or uap i slot → slots_of_uap items (drop i uap) ≡ slot_and (uap_slot (map item_tree items) slot) (slots_of_uap items (drop (i + 1) uap))
uap_from items uap i slot lt at = ap (slots_of_uap items) (from_place uap i slot lt at)

pub uap_past : (items : List Item) (uap : List UapSlot) (i : ℕ) → length uap ≤ i → slots_of_uap items (drop i uap) ≡ no_slots
uap_past items uap i le = ap (slots_of_uap items) (drop_all i uap le)
