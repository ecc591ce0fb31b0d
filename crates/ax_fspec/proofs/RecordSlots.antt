-- The slots of a record, as the code finds their items.
use Rattle.std.proofs.Common.{◌≡◌, ℕ, zero, suc, ◌+◌, ◌<◌, ◌≤◌, List, [], ◌∷◌, length, map, get_or, slice_get, sym, ◌∙◌, ap, arith, add-one}
use Rattle.std.specs.Option.{option_map}
use Rattle.std.proofs.lemmas.List.{length-map}
use Rattle.ax_format.proofs.Bounds.{record_bounds, record_slot_count}
use Rattle.ax_format.proofs.Lookups.{uap_slot_tree}
use Rattle.ax_format.specs.Flaws.{NoFlaw}
use Rattle.ax_format.specs.Lookup.{item_of_slot}
use Rattle.ax_format.specs.Plain.{item_tree, spec_tree}
use Rattle.ax_format.specs.Specification.{slot_of_item, uap_slot, record_slots}
use Rattle.ax_format.specs.Tree.{SlotTree, slot_count}
use Rattle.ax_format.specs.declared.spec.Item.{Item}
use Rattle.ax_format.specs.declared.spec.Spec.{Spec}
use Rattle.ax_format.specs.declared.spec.UapSlot.{UapSlot}
use Rattle.ax_fspec.proofs.Marking.{slot_bounds}
use Rattle.ax_fspec.specs.Reading.{SlotInBounds, record_slot_list, slot_of_frn}

tree_at : (items : List Item) (uap : List UapSlot) (i : ℕ) (d : SlotTree) → i < length uap → get_or (map (uap_slot (map item_tree items)) uap) i d ≡ slot_of_item (option_map item_tree (item_of_slot (slice_get uap i) items))
tree_at items [] i d lt = absurd (omega arith)
tree_at items (u ∷ uap) zero d lt = uap_slot_tree items u
tree_at items (u ∷ uap) (suc i) d lt = tree_at items uap i d (omega arith)

pub frn_at : (spec : Spec) (i frn : ℕ) → i < length spec.uap → frn ≡ i + 1 → slot_of_frn frn spec ≡ get_or (record_slot_list (spec_tree spec)) i (slot_of_frn frn spec)
frn_at spec i frn lt e = ap (λ n. slot_of_frn n spec) (e ∙ add-one i) ∙ sym (tree_at spec.items spec.uap i (slot_of_frn frn spec) lt)

pub frn_count : (spec : Spec) → length (record_slot_list (spec_tree spec)) ≡ length spec.uap
frn_count spec = length-map spec.uap (uap_slot (spec_tree spec).items)

pub uap_bounds : (spec : Spec) → NoFlaw (spec_tree spec) → (1 ≤ length spec.uap) × (length spec.uap ≤ 126)
uap_bounds spec h =
    let b = record_bounds (spec_tree spec) h in
    let n : slot_count (record_slots (spec_tree spec)) ≡ length spec.uap = record_slot_count (spec_tree spec) in (omega (arith, b.0), omega (arith, b.1))

pub frn_bounds : (spec : Spec) (i frn : ℕ) → NoFlaw (spec_tree spec) → i < length spec.uap → frn ≡ i + 1 → SlotInBounds (slot_of_frn frn spec)
frn_bounds spec i frn h lt e = slot_bounds (record_slot_list (spec_tree spec)) i (slot_of_frn frn spec) (record_bounds (spec_tree spec) h).2 (omega (arith, frn_count spec)) (frn_at spec i frn lt e)
