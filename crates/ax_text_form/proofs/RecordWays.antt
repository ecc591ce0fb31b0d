-- The ways out of the functions that print records.
use Rattle.std.proofs.Common.{◌≡◌, ℕ, List, [], ◌∷◌, zero, suc, map, slice_get, Some, None, refl, sym, ◌∙◌, ap, subst}
use Rattle.std.specs.Option.{option_map}
use Rattle.ax_format.proofs.Lookups.{uap_slot_tree}
use Rattle.ax_format.specs.Lookup.{item_of_slot, item_of_frn}
use Rattle.ax_format.specs.Plain.{item_tree, kind_tree, spec_tree}
use Rattle.ax_format.specs.Shape.{Shape}
use Rattle.ax_format.specs.Specification.{slot_of_item, uap_slot, record_slots}
use Rattle.ax_format.specs.Tree.{slots_of, subitem, ValueTree}
use Rattle.ax_format.specs.declared.spec.Item.{Item}
use Rattle.ax_format.specs.declared.spec.Spec.{Spec}
use Rattle.ax_format.specs.declared.spec.UapSlot.{UapSlot}
use Rattle.ax_text_form.specs.Printing.{after_spaces, Puts}
use Rattle.ax_text_form.specs.Slots.{slot_after, slot_numbered, SlotShape, slot_onto}
use Rattle.ax_text_form.specs.ValueText.{one_onto, kind_onto}
use Rattle.ax_text_form.proofs.Printed.{none_put, both_put}

tree_at : (items : List Item) (uap : List UapSlot) (i : ℕ) → slot_after i (slots_of (map (uap_slot (map item_tree items)) uap)) ≡ slot_of_item (option_map item_tree (item_of_slot (slice_get uap i) items))
tree_at items [] i = refl
tree_at items (u ∷ uap) zero = uap_slot_tree items u
tree_at items (u ∷ uap) (suc i) = tree_at items uap i

pub slot_of_frn : (spec : Spec) (frn : ℕ) → slot_numbered (record_slots (spec_tree spec)) frn ≡ slot_of_item (option_map item_tree (item_of_frn frn spec.uap spec.items))
slot_of_frn spec zero = refl
slot_of_frn spec (suc i) = tree_at spec.items spec.uap i

pub found : (spec : Spec) (frn : ℕ) (item : Item) → Some item ≡ item_of_frn frn spec.uap spec.items → slot_numbered (record_slots (spec_tree spec)) frn ≡ subitem item.name (kind_tree item.kind)
found spec frn item e = slot_of_frn spec frn ∙ ap (λ o. slot_of_item (option_map item_tree o)) (sym e)

pub item_shape : (spec : Spec) (frn : ℕ) (item : Item) (v : ValueTree) → Some item ≡ item_of_frn frn spec.uap spec.items → SlotShape (slot_numbered (record_slots (spec_tree spec)) frn) v → Shape (kind_tree item.kind) v
item_shape spec frn item v e h = subst (λ s. SlotShape s v) (found spec frn item e) h

pub item_put : (spec : Spec) (frn : ℕ) (item : Item) (v : ValueTree) (a b c : List ℕ) → Some item ≡ item_of_frn frn spec.uap spec.items → Puts after_spaces (one_onto item.name) a b → Puts after_spaces (kind_onto (kind_tree item.kind) v) b c
    → Puts after_spaces (slot_onto (slot_numbered (record_slots (spec_tree spec)) frn) v) a c
item_put spec frn item v a b c e p q = subst (λ s. Puts after_spaces (slot_onto s v) a c) (sym (found spec frn item e)) (both_put (one_onto item.name) (kind_onto (kind_tree item.kind) v) a b c p q)

pub no_item : (spec : Spec) (frn : ℕ) (v : ValueTree) (out : List ℕ) → None ≡ item_of_frn frn spec.uap spec.items → Puts after_spaces (slot_onto (slot_numbered (record_slots (spec_tree spec)) frn) v) out out
no_item spec frn v out e = subst (λ s. Puts after_spaces (slot_onto s v) out out) (sym (slot_of_frn spec frn ∙ ap (λ o. slot_of_item (option_map item_tree o)) (sym e))) (none_put out)

pub ruleset item_ways = (item_shape, item_put, no_item)
