-- The moved value has the entries of the shared paths, and no others.
use Rattle.std.proofs.Common.{◌≡◌, ℕ, ◌+◌, ◌<◌, nat_lt, Bool, true, false, cond, bytes_eq, List, [], ◌∷◌, Option, Some, None, option_map, option_and_then, refl, sym, ◌∙◌, ap, arith}
use Rattle.std.proofs.lemmas.Bool.{le-ltb, ltb-false}
use Rattle.ax_relation.proofs.CommonParts.{kept_none, none_below_none, part_kept}
use Rattle.ax_relation.proofs.Lookups.{found_is, named_from, value_later, value_before, value_put}
use Rattle.ax_relation.proofs.SameKinds.{bytes_same, same_kinds}
use Rattle.ax_relation.specs.Moved.{entry_where, moved, moved_entries}
use Rattle.ax_format.specs.At.{slot_value}
use Rattle.ax_format.specs.Migrated.{kept_where}
use Rattle.ax_format.specs.Named.{leaf, own_entry, entry_of, entry_at, kind_at}
use Rattle.ax_format.specs.Naming.{found_or, slot_named}
use Rattle.ax_format.specs.Shared.{is_shared_kind, is_shared_at, are_shared}
use Rattle.ax_format.specs.Same.{common, common_parts}
use Rattle.ax_format.specs.Tree.{KindTree, fixed, extended, counted, by_fx, explicit, compound, SlotsTree, no_slots, slot_and, spare_slot, subitem, ValueTree, part_values, marked, EntriesTree}

-- what a new slot of that name and kind gets
abbrev pub source_value : KindTree → EntriesTree → (ℕ × KindTree) → Option ValueTree
source_value l es s = cond (is_shared_kind s.1 l) (option_map (moved l s.1) (slot_value s.0 es)) None

abbrev pub new_value : List ℕ → KindTree → SlotsTree → EntriesTree → Option ValueTree
new_value name l ss es = option_and_then (source_value l es) (slot_named 1 name ss)

pub moved_from : (u n : ℕ) (ts ss : SlotsTree) (es : EntriesTree) → u < n → slot_value u (moved_entries n ts ss es) ≡ None
moved_from u n no_slots ss es h = refl
moved_from u n (slot_and spare_slot ts) ss es h = moved_from u (n + 1) ts ss es (omega arith)
moved_from u n (slot_and (subitem name l) ts) ss es h =
    value_before u n (new_value name l ss es) (moved_entries (n + 1) ts ss es) h (moved_from u (n + 1) ts ss es (omega arith))

pub moved_at : (n : ℕ) (name : List ℕ) (ts ss : SlotsTree) (es : EntriesTree) (t : ℕ) (l : KindTree) → slot_named n name ts ≡ Some (t, l)
    → slot_value t (moved_entries n ts ss es) ≡ new_value name l ss es
moved_at n name no_slots ss es t l e = cc
moved_at n name (slot_and spare_slot ts) ss es t l e = moved_at (n + 1) name ts ss es t l e
moved_at n name (slot_and (subitem own k) ts) ss es t l e = by (bytes_eq own name) refl (λ f. moved_at (n + 1) name ts ss es t l f) e
  where
    by : (b : Bool) → bytes_eq own name ≡ b → (slot_named (n + 1) name ts ≡ Some (t, l) → slot_value t (moved_entries (n + 1) ts ss es) ≡ new_value name l ss es) → found_or (cond b (Some k) None) n (slot_named (n + 1) name ts) ≡ Some (t, l)
        → slot_value t (entry_where n (new_value own k ss es) (moved_entries (n + 1) ts ss es)) ≡ new_value name l ss es
    by true q later e =
        let found = found_is (n, k) (t, l) e in
        ap (λ x. slot_value x (entry_where n (new_value own k ss es) (moved_entries (n + 1) ts ss es))) (sym found.0)
        ∙ value_put n (new_value own k ss es) (moved_entries (n + 1) ts ss es) (moved_from n (n + 1) ts ss es (omega arith))
        ∙ (λ i. new_value (bytes_same own name q i) (found.1 i) ss es)
    by false q later e =
        let h = named_from (n + 1) name ts t l e in
        value_later t n (new_value own k ss es) (moved_entries (n + 1) ts ss es) (omega arith) ∙ later e

-- ---- entries at a key

unshared : (part : Option ℕ) (o : Option KindTree) → are_shared part o None ≡ false
unshared part None = refl
unshared part (Some k) = refl

-- kinds that aren't shared have no part in common
none_at : (i : ℕ) (k l : KindTree) → is_shared_kind k l ≡ false → nat_lt i (common_parts k l) ≡ false
none_at i (extended last ps) (extended other qs) e = let h = ltb-false 0 (common ps qs) e in le-ltb i (common ps qs) (omega arith)
none_at i (extended last ps) _ e = none_below_none i
none_at i _ l e = none_below_none i

-- below kinds that aren't shared nothing is
none_below : (part : Option ℕ) (names : List (List ℕ)) (k l : KindTree) → is_shared_kind k l ≡ false → are_shared part (kind_at names k) (kind_at names l) ≡ false
none_below None [] k l e = e
none_below (Some i) [] k l e = none_at i k l e
none_below part (name ∷ names) (compound ss) (compound ts) e = cc
none_below part (name ∷ names) (compound ss) (fixed f) e = unshared part _
none_below part (name ∷ names) (compound ss) (extended last ps) e = unshared part _
none_below part (name ∷ names) (compound ss) (counted size k) e = unshared part _
none_below part (name ∷ names) (compound ss) (by_fx f) e = unshared part _
none_below part (name ∷ names) (compound ss) explicit e = unshared part _
none_below part (name ∷ names) _ _ e = refl

-- the entry of a shared kind is the old one
own_same : (k l : KindTree) (v : ValueTree) → is_shared_kind k l ≡ true → own_entry l (moved l k v) ≡ own_entry k v
own_same (compound ss) (compound ts) v e = refl
own_same (extended last ps) (extended other qs) v e = refl
own_same (fixed f) (fixed g) v e = ap (λ x. leaf x v) (sym (same_kinds (fixed f) (fixed g) e))
own_same (counted size k) (counted other l) v e = ap (λ x. leaf x v) (sym (same_kinds (counted size k) (counted other l) e))
own_same (by_fx f) (by_fx g) v e = ap (λ x. leaf x v) (sym (same_kinds (by_fx f) (by_fx g) e))
own_same explicit explicit v e = refl
own_same _ _ v e = cc

-- and of its parts those in common are
same_entry : (part : Option ℕ) (k l : KindTree) (v : ValueTree) → is_shared_kind k l ≡ true → entry_of part l (moved l k v) ≡ kept_where (is_shared_at part k l) (entry_of part k v)
same_entry None k l v e = ap Some (own_same k l v e) ∙ sym (ap (λ b. kept_where b (Some (own_entry k v))) e)
same_entry (Some i) (extended last ps) (extended other qs) (part_values ls) e = part_kept i ps qs ls
same_entry (Some i) (extended last ps) (extended other qs) _ e = sym (kept_none (nat_lt i (common ps qs)))
same_entry (Some i) (compound ss) (compound ts) v e = sym (kept_none (nat_lt i 0))
same_entry (Some i) (fixed f) (fixed g) v e = sym (kept_none (nat_lt i 0))
same_entry (Some i) (counted size k) (counted other l) v e = sym (kept_none (nat_lt i 0))
same_entry (Some i) (by_fx f) (by_fx g) v e = sym (kept_none (nat_lt i 0))
same_entry (Some i) explicit explicit v e = sym (kept_none (nat_lt i 0))
same_entry (Some i) _ _ v e = cc

module _ (part : Option ℕ) (names : List (List ℕ)) (below : (k l : KindTree) (v : ValueTree) → is_shared_kind k l ≡ true
    → entry_at part names l (moved l k v) ≡ kept_where (are_shared part (kind_at names k) (kind_at names l)) (entry_at part names k v)) where
  one_value : (k l : KindTree) (o : Option ValueTree) (b : Bool) → is_shared_kind k l ≡ b
      → option_and_then (entry_at part names l) (cond b (option_map (moved l k) o) None) ≡ kept_where (are_shared part (kind_at names k) (kind_at names l)) (option_and_then (entry_at part names k) o)
  one_value k l None true e = sym (kept_none (are_shared part (kind_at names k) (kind_at names l)))
  one_value k l (Some v) true e = below k l v e
  one_value k l o false e = sym (ap (λ x. kept_where x (option_and_then (entry_at part names k) o)) (none_below part names k l e))

  one_slot : (l : KindTree) (es : EntriesTree) (o : Option (ℕ × KindTree))
      → option_and_then (entry_at part names l) (option_and_then (source_value l es) o)
      ≡ kept_where (are_shared part (option_and_then (λ s. kind_at names s.1) o) (kind_at names l)) (option_and_then (λ s. option_and_then (entry_at part names s.1) (slot_value s.0 es)) o)
  one_slot l es None = refl
  one_slot l es (Some s) = one_value s.1 l (slot_value s.0 es) (is_shared_kind s.1 l) refl

  one_name : (name : List ℕ) (ts ss : SlotsTree) (es : EntriesTree) (o : Option (ℕ × KindTree)) → slot_named 1 name ts ≡ o
      → option_and_then (λ t. option_and_then (entry_at part names t.1) (slot_value t.0 (moved_entries 1 ts ss es))) o
      ≡ kept_where (are_shared part (option_and_then (λ s. kind_at names s.1) (slot_named 1 name ss)) (option_and_then (λ s. kind_at names s.1) o))
      (option_and_then (λ s. option_and_then (entry_at part names s.1) (slot_value s.0 es)) (slot_named 1 name ss))
  one_name name ts ss es None e = sym (ap (λ x. kept_where x (option_and_then (λ s. option_and_then (entry_at part names s.1) (slot_value s.0 es)) (slot_named 1 name ss))) (unshared part (option_and_then (λ s. kind_at names s.1) (slot_named 1 name ss))))
  one_name name ts ss es (Some t) e = ap (option_and_then (entry_at part names t.1)) (moved_at 1 name ts ss es t.0 t.1 e) ∙ one_slot t.1 es (slot_named 1 name ss)

-- at each key downwards from shared kinds
pub moved_named : (part : Option ℕ) (names : List (List ℕ)) (k l : KindTree) (v : ValueTree) → is_shared_kind k l ≡ true
    → entry_at part names l (moved l k v) ≡ kept_where (are_shared part (kind_at names k) (kind_at names l)) (entry_at part names k v)
moved_named part [] k l v e = same_entry part k l v e
moved_named part (name ∷ names) (compound ss) (compound ts) (marked es) e = one_name part names (moved_named part names) name ts ss es (slot_named 1 name ts) refl
moved_named part (name ∷ names) (compound ss) (compound ts) _ e = sym (kept_none _)
moved_named part (name ∷ names) (fixed f) (fixed g) v e = refl
moved_named part (name ∷ names) (extended last ps) (extended other qs) v e = refl
moved_named part (name ∷ names) (counted size k) (counted other l) v e = refl
moved_named part (name ∷ names) (by_fx f) (by_fx g) v e = refl
moved_named part (name ∷ names) explicit explicit v e = refl
moved_named part (name ∷ names) _ _ v e = cc
