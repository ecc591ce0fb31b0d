-- The converted record has the entries of the keys that pass, and no others.
use Rattle.std.proofs.Common.{◌≡◌, ℕ, ◌+◌, ◌<◌, nat_lt, Bool, true, false, cond, bytes_eq, List, [], ◌∷◌, Option, Some, None, option_map, option_and_then, refl, sym, ◌∙◌, ap, arith}
use Rattle.std.proofs.lemmas.Bool.{le-ltb, ltb-false}
use Rattle.ax_relation.proofs.CommonParts.{none_below_none, part_kept}
use Rattle.ax_relation.proofs.Lookups.{found_is, named_from, value_later, value_before, value_put}
use Rattle.ax_relation.proofs.SameKinds.{both, bytes_same, same_kinds}
use Rattle.ax_relation.specs.Moved.{entry_where}
use Rattle.ax_format.specs.At.{slot_value}
use Rattle.ax_format.specs.Migrated.{kept_where}
use Rattle.ax_format.specs.Named.{Key, NamedEntry, leaf, own_entry, entry_of, entry_at, entry_named, kind_at, Named}
use Rattle.ax_format.specs.Naming.{found_or, slot_named}
use Rattle.ax_format.specs.Same.{common, common_parts}
use Rattle.ax_format.specs.Shared.{is_shared_kind, are_shared, shared_names}
use Rattle.ax_format.specs.Specification.{SpecTree, record_kind}
use Rattle.ax_format.specs.Tree.{KindTree, fixed, extended, counted, by_fx, explicit, compound, SlotsTree, no_slots, slot_and, spare_slot, subitem, ValueTree, part_values, marked, EntriesTree}
use Rattle.ax_rescale.specs.Alike.{is_plain, is_alike}
use Rattle.ax_rescale.specs.Conversion.{KindPair, alike_pair, converted_entry, passed}
use Rattle.ax_rescale.specs.ConvertedRecord.{slot_gets, passes, passing_entries, converted_record}
use Rattle.ax_rescale.specs.ConvertedValue.{converted_value}

-- ---- slots

-- what a new slot of that name and kind gets
abbrev pub source_value : KindTree → EntriesTree → (ℕ × KindTree) → Option ValueTree
source_value l es s = option_and_then (λ v. slot_gets s.1 l v (passes l s.1 v)) (slot_value s.0 es)

abbrev pub new_value : List ℕ → KindTree → SlotsTree → EntriesTree → Option ValueTree
new_value name l ss es = option_and_then (source_value l es) (slot_named 1 name ss)

passing_from : (u n : ℕ) (ts ss : SlotsTree) (es : EntriesTree) → u < n → slot_value u (passing_entries n ts ss es) ≡ None
passing_from u n no_slots ss es h = refl
passing_from u n (slot_and spare_slot ts) ss es h = passing_from u (n + 1) ts ss es (omega arith)
passing_from u n (slot_and (subitem name l) ts) ss es h =
    value_before u n (new_value name l ss es) (passing_entries (n + 1) ts ss es) h (passing_from u (n + 1) ts ss es (omega arith))

passing_at : (n : ℕ) (name : List ℕ) (ts ss : SlotsTree) (es : EntriesTree) (t : ℕ) (l : KindTree) → slot_named n name ts ≡ Some (t, l)
    → slot_value t (passing_entries n ts ss es) ≡ new_value name l ss es
passing_at n name no_slots ss es t l e = cc
passing_at n name (slot_and spare_slot ts) ss es t l e = passing_at (n + 1) name ts ss es t l e
passing_at n name (slot_and (subitem own k) ts) ss es t l e = by (bytes_eq own name) refl (λ f. passing_at (n + 1) name ts ss es t l f) e
  where
    by : (b : Bool) → bytes_eq own name ≡ b → (slot_named (n + 1) name ts ≡ Some (t, l) → slot_value t (passing_entries (n + 1) ts ss es) ≡ new_value name l ss es) → found_or (cond b (Some k) None) n (slot_named (n + 1) name ts) ≡ Some (t, l)
        → slot_value t (entry_where n (new_value own k ss es) (passing_entries (n + 1) ts ss es)) ≡ new_value name l ss es
    by true q later e =
        let found = found_is (n, k) (t, l) e in
        ap (λ x. slot_value x (entry_where n (new_value own k ss es) (passing_entries (n + 1) ts ss es))) (sym found.0)
        ∙ value_put n (new_value own k ss es) (passing_entries (n + 1) ts ss es) (passing_from n (n + 1) ts ss es (omega arith))
        ∙ (λ i. new_value (bytes_same own name q i) (found.1 i) ss es)
    by false q later e =
        let h = named_from (n + 1) name ts t l e in
        value_later t n (new_value own k ss es) (passing_entries (n + 1) ts ss es) (omega arith) ∙ later e

-- ---- what passes at a key

-- of a shared key the entry itself, of a path with these kinds the converted entry, or nothing
abbrev passed_at : Bool → Option KindPair → Option NamedEntry → Option NamedEntry
passed_at shared pair entry = cond shared entry (option_and_then (λ p. option_and_then (converted_entry p) entry) pair)

-- of two kinds, if they stand there
abbrev passed_of : Option ℕ → Option KindTree → Option KindTree → Option NamedEntry → Option NamedEntry
passed_of part k l entry = passed_at (are_shared part k l) (alike_pair part k l) entry

of_none : (shared : Bool) (pair : Option KindPair) → passed_at shared pair None ≡ None
of_none true pair = refl
of_none false None = refl
of_none false (Some p) = refl

of_no_kind : (part : Option ℕ) (k : Option KindTree) (entry : Option NamedEntry) → passed_of part k None entry ≡ None
of_no_kind None None entry = refl
of_no_kind None (Some k) entry = refl
of_no_kind (Some i) None entry = refl
of_no_kind (Some i) (Some k) entry = refl

of_no_old : (part : Option ℕ) (l : Option KindTree) (entry : Option NamedEntry) → passed_of part None l entry ≡ None
of_no_old None l entry = refl
of_no_old (Some i) l entry = refl

-- ---- kinds that aren't shared

none_at : (i : ℕ) (k l : KindTree) → is_shared_kind k l ≡ false → nat_lt i (common_parts k l) ≡ false
none_at i (extended last ps) (extended other qs) e = let h = ltb-false 0 (common ps qs) e in le-ltb i (common ps qs) (omega arith)
none_at i (extended last ps) _ e = none_below_none i
none_at i _ l e = none_below_none i

not_shared : (b : Bool) (entry : Option NamedEntry) → b ≡ false → passed_at b None entry ≡ None
not_shared b entry e = ap (λ x. passed_at x None entry) e

-- nothing passes of kinds that aren't alike either
none_passes : (part : Option ℕ) (names : List (List ℕ)) (k l : KindTree) (entry : Option NamedEntry) → is_shared_kind k l ≡ false → is_alike k l ≡ false → passed_of part (kind_at names k) (kind_at names l) entry ≡ None
none_passes None [] k l entry e f = (λ i. passed_at (e i) (cond (f i) (Some (record { old = k; new = l })) None) entry)
none_passes (Some i) [] k l entry e f = not_shared (nat_lt i (common_parts k l)) entry (none_at i k l e)
none_passes part (name ∷ names) (compound ss) (compound ts) entry e f = cc
none_passes part (name ∷ names) (compound ss) (fixed g) entry e f = of_no_kind part (kind_at (name ∷ names) (compound ss)) entry
none_passes part (name ∷ names) (compound ss) (extended last qs) entry e f = of_no_kind part (kind_at (name ∷ names) (compound ss)) entry
none_passes part (name ∷ names) (compound ss) (counted size l) entry e f = of_no_kind part (kind_at (name ∷ names) (compound ss)) entry
none_passes part (name ∷ names) (compound ss) (by_fx g) entry e f = of_no_kind part (kind_at (name ∷ names) (compound ss)) entry
none_passes part (name ∷ names) (compound ss) explicit entry e f = of_no_kind part (kind_at (name ∷ names) (compound ss)) entry
none_passes part (name ∷ names) (fixed g) l entry e f = of_no_old part (kind_at (name ∷ names) l) entry
none_passes part (name ∷ names) (extended last ps) l entry e f = of_no_old part (kind_at (name ∷ names) l) entry
none_passes part (name ∷ names) (counted size k) l entry e f = of_no_old part (kind_at (name ∷ names) l) entry
none_passes part (name ∷ names) (by_fx g) l entry e f = of_no_old part (kind_at (name ∷ names) l) entry
none_passes part (name ∷ names) explicit l entry e f = of_no_old part (kind_at (name ∷ names) l) entry

-- ---- kinds that are alike

plain_pair : (k l : KindTree) → is_alike k l ≡ true → (is_plain k ≡ true) × (is_plain l ≡ true)
plain_pair k l e = let p = both (is_plain k) _ e in (p.0, (both (is_plain l) _ p.1).0)

no_kind_below : (name : List ℕ) (names : List (List ℕ)) (k : KindTree) → is_plain k ≡ true → kind_at (name ∷ names) k ≡ None
no_kind_below name names (compound ss) e = cc
no_kind_below name names (fixed f) e = refl
no_kind_below name names (extended last ps) e = refl
no_kind_below name names (counted size k) e = refl
no_kind_below name names (by_fx f) e = refl
no_kind_below name names explicit e = refl

no_entry_below : (part : Option ℕ) (name : List ℕ) (names : List (List ℕ)) (k : KindTree) (v : ValueTree) → is_plain k ≡ true → entry_at part (name ∷ names) k v ≡ None
no_entry_below part name names (compound ss) v e = cc
no_entry_below part name names (fixed f) v e = refl
no_entry_below part name names (extended last ps) v e = refl
no_entry_below part name names (counted size k) v e = refl
no_entry_below part name names (by_fx f) v e = refl
no_entry_below part name names explicit v e = refl

no_part : (i : ℕ) (k : KindTree) (v : ValueTree) → is_plain k ≡ true → entry_of (Some i) k v ≡ None
no_part i (compound ss) v e = cc
no_part i (extended last ps) v e = cc
no_part i (fixed f) v e = refl
no_part i (counted size k) v e = refl
no_part i (by_fx f) v e = refl
no_part i explicit v e = refl

no_common : (i : ℕ) (k l : KindTree) → is_plain k ≡ true → nat_lt i (common_parts k l) ≡ false
no_common i (compound ss) l e = cc
no_common i (extended last ps) l e = cc
no_common i (fixed f) l e = none_below_none i
no_common i (counted size k) l e = none_below_none i
no_common i (by_fx f) l e = none_below_none i
no_common i explicit l e = none_below_none i

-- the entry of a plain kind is converted as its value is
plain_entry : (k l : KindTree) (v : ValueTree) → is_plain k ≡ true → converted_entry (record { old = k; new = l }) (own_entry k v) ≡ option_map (own_entry l) (converted_value k l v)
plain_entry (compound ss) l v e = cc
plain_entry (extended last ps) l v e = cc
plain_entry (fixed f) l v e = refl
plain_entry (counted size k) l v e = refl
plain_entry (by_fx f) l v e = refl
plain_entry explicit l v e = refl

own_of : (l : KindTree) (o : Option ValueTree) → option_and_then (entry_of None l) o ≡ option_map (own_entry l) o
own_of l None = refl
own_of l (Some v) = refl

nothing : {A B : Type 0} (f : A → Option B) (o : Option A) → ((x : A) → f x ≡ None) → option_and_then f o ≡ None
nothing f None h = refl
nothing f (Some x) h = h x

alike_passes : (part : Option ℕ) (names : List (List ℕ)) (k l : KindTree) (v : ValueTree) → is_shared_kind k l ≡ false → is_alike k l ≡ true
    → option_and_then (entry_at part names l) (converted_value k l v) ≡ passed_of part (kind_at names k) (kind_at names l) (entry_at part names k v)
alike_passes None [] k l v e f =
    own_of l (converted_value k l v) ∙ sym (plain_entry k l v (plain_pair k l f).0)
    ∙ sym (λ i. passed_at (e i) (cond (f i) (Some (record { old = k; new = l })) None) (Some (own_entry k v)))
alike_passes (Some i) [] k l v e f =
    nothing (entry_of (Some i) l) (converted_value k l v) (λ x. no_part i l x (plain_pair k l f).1)
    ∙ sym (not_shared (nat_lt i (common_parts k l)) (entry_of (Some i) k v) (no_common i k l (plain_pair k l f).0))
alike_passes part (name ∷ names) k l v e f =
    nothing (entry_at part (name ∷ names) l) (converted_value k l v) (λ x. no_entry_below part name names l x (plain_pair k l f).1)
    ∙ sym (ap (λ o. passed_of part o (kind_at (name ∷ names) l) (entry_at part (name ∷ names) k v)) (no_kind_below name names k (plain_pair k l f).0) ∙ of_no_old part (kind_at (name ∷ names) l) (entry_at part (name ∷ names) k v))

-- ---- shared kinds

own_same : (k l : KindTree) (v : ValueTree) → is_shared_kind k l ≡ true → own_entry l (passes l k v) ≡ own_entry k v
own_same (compound ss) (compound ts) v e = refl
own_same (extended last ps) (extended other qs) v e = refl
own_same (fixed f) (fixed g) v e = ap (λ x. leaf x v) (sym (same_kinds (fixed f) (fixed g) e))
own_same (counted size k) (counted other l) v e = ap (λ x. leaf x v) (sym (same_kinds (counted size k) (counted other l) e))
own_same (by_fx f) (by_fx g) v e = ap (λ x. leaf x v) (sym (same_kinds (by_fx f) (by_fx g) e))
own_same explicit explicit v e = refl
own_same _ _ v e = cc

kept_is : (b : Bool) (entry : Option NamedEntry) → passed_at b None entry ≡ kept_where b entry
kept_is true entry = refl
kept_is false entry = refl

none_kept : (b : Bool) → passed_at b None None ≡ None
none_kept b = of_none b None

same_entry : (part : Option ℕ) (k l : KindTree) (v : ValueTree) → is_shared_kind k l ≡ true → entry_of part l (passes l k v) ≡ passed_of part (Some k) (Some l) (entry_of part k v)
same_entry None k l v e = ap Some (own_same k l v e) ∙ sym (ap (λ b. passed_at b (alike_pair None (Some k) (Some l)) (Some (own_entry k v))) e)
same_entry (Some i) (extended last ps) (extended other qs) (part_values ls) e = part_kept i ps qs ls ∙ sym (kept_is (nat_lt i (common ps qs)) (entry_of (Some i) (extended last ps) (part_values ls)))
same_entry (Some i) (extended last ps) (extended other qs) _ e = sym (none_kept (nat_lt i (common ps qs)))
same_entry (Some i) (compound ss) (compound ts) v e = sym (none_kept (nat_lt i 0))
same_entry (Some i) (fixed f) (fixed g) v e = sym (none_kept (nat_lt i 0))
same_entry (Some i) (counted size k) (counted other l) v e = sym (none_kept (nat_lt i 0))
same_entry (Some i) (by_fx f) (by_fx g) v e = sym (none_kept (nat_lt i 0))
same_entry (Some i) explicit explicit v e = sym (none_kept (nat_lt i 0))
same_entry (Some i) _ _ v e = cc

module _ (part : Option ℕ) (names : List (List ℕ)) (below : (k l : KindTree) (v : ValueTree) → is_shared_kind k l ≡ true
    → entry_at part names l (passes l k v) ≡ passed_of part (kind_at names k) (kind_at names l) (entry_at part names k v)) where
  one_value : (k l : KindTree) (v : ValueTree) (b c : Bool) → is_shared_kind k l ≡ b → is_alike k l ≡ c
      → option_and_then (entry_at part names l) (cond b (Some (passes l k v)) (cond c (converted_value k l v) None)) ≡ passed_of part (kind_at names k) (kind_at names l) (entry_at part names k v)
  one_value k l v true c e f = below k l v e
  one_value k l v false true e f = alike_passes part names k l v e f
  one_value k l v false false e f = sym (none_passes part names k l (entry_at part names k v) e f)

  one_place : (k l : KindTree) (o : Option ValueTree)
      → option_and_then (entry_at part names l) (option_and_then (λ v. slot_gets k l v (passes l k v)) o) ≡ passed_of part (kind_at names k) (kind_at names l) (option_and_then (entry_at part names k) o)
  one_place k l None = sym (of_none (are_shared part (kind_at names k) (kind_at names l)) (alike_pair part (kind_at names k) (kind_at names l)))
  one_place k l (Some v) = one_value k l v (is_shared_kind k l) (is_alike k l) refl refl

  one_slot : (l : KindTree) (es : EntriesTree) (o : Option (ℕ × KindTree))
      → option_and_then (entry_at part names l) (option_and_then (source_value l es) o)
      ≡ passed_of part (option_and_then (λ s. kind_at names s.1) o) (kind_at names l) (option_and_then (λ s. option_and_then (entry_at part names s.1) (slot_value s.0 es)) o)
  one_slot l es None = sym (of_no_old part (kind_at names l) None)
  one_slot l es (Some s) = one_place s.1 l (slot_value s.0 es)

  one_name : (name : List ℕ) (ts ss : SlotsTree) (es : EntriesTree) (o : Option (ℕ × KindTree)) → slot_named 1 name ts ≡ o
      → option_and_then (λ t. option_and_then (entry_at part names t.1) (slot_value t.0 (passing_entries 1 ts ss es))) o
      ≡ passed_of part (option_and_then (λ s. kind_at names s.1) (slot_named 1 name ss)) (option_and_then (λ s. kind_at names s.1) o)
      (option_and_then (λ s. option_and_then (entry_at part names s.1) (slot_value s.0 es)) (slot_named 1 name ss))
  one_name name ts ss es None e = sym (of_no_kind part (option_and_then (λ s. kind_at names s.1) (slot_named 1 name ss)) (option_and_then (λ s. option_and_then (entry_at part names s.1) (slot_value s.0 es)) (slot_named 1 name ss)))
  one_name name ts ss es (Some t) e = ap (option_and_then (entry_at part names t.1)) (passing_at 1 name ts ss es t.0 t.1 e) ∙ one_slot t.1 es (slot_named 1 name ss)

-- at each key downwards from shared kinds
passing_named : (part : Option ℕ) (names : List (List ℕ)) (k l : KindTree) (v : ValueTree) → is_shared_kind k l ≡ true
    → entry_at part names l (passes l k v) ≡ passed_of part (kind_at names k) (kind_at names l) (entry_at part names k v)
passing_named part [] k l v e = same_entry part k l v e
passing_named part (name ∷ names) (compound ss) (compound ts) (marked es) e = one_name part names (passing_named part names) name ts ss es (slot_named 1 name ts) refl
passing_named part (name ∷ names) (compound ss) (compound ts) _ e = sym (of_none (are_shared part (kind_at (name ∷ names) (compound ss)) (kind_at (name ∷ names) (compound ts))) (alike_pair part (kind_at (name ∷ names) (compound ss)) (kind_at (name ∷ names) (compound ts))))
passing_named part (name ∷ names) (fixed f) (fixed g) v e = sym (of_no_old part None None)
passing_named part (name ∷ names) (extended last ps) (extended other qs) v e = sym (of_no_old part None None)
passing_named part (name ∷ names) (counted size k) (counted other l) v e = sym (of_no_old part None None)
passing_named part (name ∷ names) (by_fx f) (by_fx g) v e = sym (of_no_old part None None)
passing_named part (name ∷ names) explicit explicit v e = sym (of_no_old part None None)
passing_named part (name ∷ names) _ _ v e = cc

-- ---- records

once_shared : (b : Bool) (pair : Option KindPair) (entry : Option NamedEntry) → passed_at b pair entry ≡ cond b entry (option_and_then (λ p. option_and_then (converted_entry p) entry) (cond b None pair))
once_shared true pair entry = refl
once_shared false pair entry = refl

no_names : (part : Option ℕ) (old new : SpecTree) → option_and_then (λ p. option_and_then (converted_entry p) None) (alike_pair part (Some (record_kind old)) (Some (record_kind new))) ≡ None
no_names None old new = refl
no_names (Some i) old new = refl

pub record_named : (old new : SpecTree) (es : EntriesTree) (key : Key) → Named new (converted_record old new es) key ≡ passed old new key (Named old es key)
record_named old new es key = at key.part key.names
  where
    at : (part : Option ℕ) (names : List (List ℕ)) → entry_named new (converted_record old new es) part names ≡ passed old new (record { names = names; part = part }) (entry_named old es part names)
    at part [] = sym (no_names part old new)
    at part (name ∷ names) =
        passing_named part (name ∷ names) (record_kind old) (record_kind new) (marked es) refl
        ∙ once_shared (shared_names old new part (name ∷ names)) (alike_pair part (kind_at (name ∷ names) (record_kind old)) (kind_at (name ∷ names) (record_kind new))) (entry_named old es part (name ∷ names))
