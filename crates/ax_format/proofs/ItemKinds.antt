-- The kinds of a UAP's items by field reference number.
use Rattle.std.proofs.Common.{◌≡◌, ℕ, zero, suc, List, [], ◌∷◌, map, Option, Some, None, slice_get, refl, ◌∙◌, ap}
use Rattle.std.specs.Option.{option_map}
use Rattle.ax_format.proofs.Lookups.{uap_slot_tree}
use Rattle.ax_format.specs.Lengths.{slot_kind, kind_after, kind_of_slot}
use Rattle.ax_format.specs.Lookup.{item_of_slot, item_of_frn}
use Rattle.ax_format.specs.Plain.{item_tree, kind_tree, spec_tree}
use Rattle.ax_format.specs.Specification.{record_slots, uap_slot, slot_of_item}
use Rattle.ax_format.specs.Tree.{KindTree, slots_of}
use Rattle.ax_format.specs.declared.spec.Item.{Item}
use Rattle.ax_format.specs.declared.spec.Spec.{Spec}
use Rattle.ax_format.specs.declared.spec.UapSlot.{UapSlot}

abbrev pub kind_of_item : Option Item → Option KindTree
kind_of_item None = None
kind_of_item (Some item) = Some (kind_tree item.kind)

pub kind_in_slot : (o : Option Item) → kind_of_slot (slot_of_item (option_map item_tree o)) ≡ kind_of_item o
kind_in_slot None = refl
kind_in_slot (Some item) = refl

kind_at_place : (items : List Item) (uap : List UapSlot) (i : ℕ) → kind_after i (slots_of (map (uap_slot (map item_tree items)) uap)) ≡ kind_of_item (item_of_slot (slice_get uap i) items)
kind_at_place items [] i = refl
kind_at_place items (s ∷ ss) zero = ap kind_of_slot (uap_slot_tree items s) ∙ kind_in_slot (item_of_slot (Some s) items)
kind_at_place items (s ∷ ss) (suc i) = kind_at_place items ss i

pub kind_of_frn : (spec : Spec) (t : ℕ) → slot_kind (record_slots (spec_tree spec)) t ≡ kind_of_item (item_of_frn t spec.uap spec.items)
kind_of_frn spec zero = refl
kind_of_frn spec (suc i) = kind_at_place spec.items spec.uap i
