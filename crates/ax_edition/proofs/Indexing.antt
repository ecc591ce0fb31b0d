-- What an index finds: the slot of the number under a name.
use Rattle.std.proofs.Common.{◌≡◌, ℕ, zero, suc, ◌+◌, Bool, true, false, cond, bytes_eq, List, [], ◌∷◌, map, slice_get, Option, Some, None, option_map, option_and_then, refl, ◌∙◌, ap, arith}
use Rattle.std.specs.Borrow.{Bor}
use Rattle.ax_edition.specs.Index.{seen_kind, kind_numbered, Finds}
use Rattle.ax_edition.specs.Numbers.{Counts}
use Rattle.ax_edition.specs.SlotItems.{item_slot, items_tree}
use Rattle.ax_edition.specs.declared.index.Index.{Index}
use Rattle.ax_relation.proofs.Lookups.{found_is}
use Rattle.ax_format.specs.Lengths.{kind_of_slot, kind_after}
use Rattle.ax_format.specs.Naming.{found_or, slot_named}
use Rattle.ax_format.specs.Plain.{slot_tree, slots_tree}
use Rattle.ax_format.specs.Tree.{KindTree, SlotTree, SlotsTree, no_slots, slots_of, slot_and, spare_slot, subitem}
use Rattle.ax_format.specs.declared.kind.Kind.{Kind}
use Rattle.ax_format.specs.declared.kind.Slot.{Slot}
use Rattle.ax_format.specs.declared.spec.Item.{Item}

-- the slot found has its number's kind
named_kind : (n : ℕ) (name : List ℕ) (ss : SlotsTree) (t : ℕ) (k : KindTree) → slot_named n name ss ≡ Some (t, k) → (i : ℕ) × (t ≡ n + i) × (kind_after i ss ≡ Some k)
named_kind n name no_slots t k e = absurd (cc)
named_kind n name (slot_and spare_slot ss) t k e =
    let h = named_kind (n + 1) name ss t k e in (suc h.0, (let q = h.1 in omega (arith, q)), h.2)
named_kind n name (slot_and (subitem own l) ss) t k e = by (bytes_eq own name) e (λ f. named_kind (n + 1) name ss t k f)
  where
    by : (b : Bool) → found_or (cond b (Some l) None) n (slot_named (n + 1) name ss) ≡ Some (t, k) → (slot_named (n + 1) name ss ≡ Some (t, k) → (i : ℕ) × (t ≡ n + 1 + i) × (kind_after i ss ≡ Some k))
        → (i : ℕ) × (t ≡ n + i) × (kind_after i (slot_and (subitem own l) ss) ≡ Some k)
    by true e later =
        let f = found_is (n, l) (t, k) e in (0, (let q = f.0 in omega (arith, q)), ap Some f.1)
    by false e later =
        let h = later e in (suc h.0, (let q = h.1 in omega (arith, q)), h.2)

-- kinds that are those of slots, by number
module _ {A : Type 0} (tree : A → SlotTree) where
  numbered_kinds : (ss : List A) (kinds : List (Option (Bor Kind))) (i : ℕ) → map seen_kind kinds ≡ map (λ s. kind_of_slot (tree s)) ss → option_and_then seen_kind (slice_get kinds i) ≡ kind_after i (slots_of (map tree ss))
  numbered_kinds [] [] i e = refl
  numbered_kinds [] (k ∷ kinds) i e = cc
  numbered_kinds (s ∷ ss) [] i e = cc
  numbered_kinds (s ∷ ss) (k ∷ kinds) zero e =
      let h : seen_kind k ≡ kind_of_slot (tree s) = cc in h
  numbered_kinds (s ∷ ss) (k ∷ kinds) (suc i) e =
      let h : map seen_kind kinds ≡ map (λ s. kind_of_slot (tree s)) ss = cc in numbered_kinds ss kinds i h

  found_slot : (ss : List A) (index : Index) (name : List ℕ) (o : Option (ℕ × KindTree)) → map seen_kind index.kinds ≡ map (λ s. kind_of_slot (tree s)) ss → slot_named 1 name (slots_of (map tree ss)) ≡ o
      → option_and_then (λ n. option_map (λ k. (n, k)) (kind_numbered index.kinds n)) (option_map (λ s. s.0) o) ≡ o
  found_slot ss index name None e f = refl
  found_slot ss index name (Some s) e f =
      let h = named_kind 1 name (slots_of (map tree ss)) s.0 s.1 f in
      let n : s.0 ≡ suc h.0 = let q = h.1 in omega (arith, q) in
      let k : kind_numbered index.kinds s.0 ≡ Some s.1 = ap (kind_numbered index.kinds) n ∙ numbered_kinds ss index.kinds h.0 e ∙ h.2 in
      ap (option_map (λ k. (s.0, k))) k

  finds : (ss : List A) (index : Index) → Counts 1 (slots_of (map tree ss)) index.numbers → map seen_kind index.kinds ≡ map (λ s. kind_of_slot (tree s)) ss → Finds 1 (slots_of (map tree ss)) index
  finds ss index c e = record {
    finds = λ name.
        ap (option_and_then (λ n. option_map (λ k. (n, k)) (kind_numbered index.kinds n))) (c.counts name) ∙ found_slot ss index name (slot_named 1 name (slots_of (map tree ss))) e refl;
  }

pub slots_found : (ss : List Slot) (index : Index) → Counts 1 (slots_tree ss) index.numbers → map seen_kind index.kinds ≡ map (λ s. kind_of_slot (slot_tree s)) ss → Finds 1 (slots_tree ss) index
slots_found ss index = finds slot_tree ss index

pub items_found : (items : List (Option (Bor Item))) (index : Index) → Counts 1 (items_tree items) index.numbers → map seen_kind index.kinds ≡ map (λ s. kind_of_slot (item_slot s)) items → Finds 1 (items_tree items) index
items_found items index = finds item_slot items index

pub ruleset whole = (slots_found, items_found)
