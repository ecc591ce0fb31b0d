-- Each key that is present is kept, or lost once.
use Rattle.std.proofs.Common.{◌≡◌, ℕ, zero, suc, ◌+◌, ◌<◌, ◌≤◌, ◌==◌, ◌⊎◌, inl, inr, Bool, true, false, cond, ◌&&◌, not, is_some, List, [], ◌∷◌, ◌++◌, length, filter, flat_map, Option, Some, None, option_and_then, refl, sym, ◌∙◌, ap, arith}
use Rattle.std.proofs.lemmas.Bool.{eqb-true, eq-eqb, ne_eqb, cases_lt}
use Rattle.ax_relation.proofs.Distinct.{Distinct}
use Rattle.ax_relation.proofs.NamedOnce.{own_name}
use Rattle.ax_relation.proofs.PathsOnce.{path_times, path_is, slot_once}
use Rattle.ax_relation.proofs.SameKinds.{both}
use Rattle.ax_relation.specs.Fates.{is_path, is_part, is_key, times, KeptOrLost}
use Rattle.ax_format.specs.Migrated.{Migrated, is_lost, Lost, kept_where}
use Rattle.ax_format.specs.Named.{Key, part_keys, keys_at, NamedEntry, named_paths, named_keys, kind_at, part_entry, entry_of, entry_at, Named}
use Rattle.ax_format.specs.Shared.{Shared}
use Rattle.ax_format.specs.At.{slot_value}
use Rattle.ax_format.specs.Naming.{slot_named}
use Rattle.ax_format.specs.Specification.{SpecTree, record_slots, record_kind}
use Rattle.ax_format.specs.Tree.{MembersTree, KindTree, fixed, extended, counted, by_fx, explicit, compound, ValueTree, part_values, marked, ListsTree, no_lists, list_and, EntriesTree}

abbrev pub key_of : Option ℕ → List (List ℕ) → Key
key_of part names = record { names = names; part = part }

part_is : (a b : Option ℕ) → is_part a b ≡ true → a ≡ b
part_is None None e = refl
part_is (Some i) (Some j) e = ap Some (eqb-true i j e)
part_is None (Some j) e = cc
part_is (Some i) None e = cc

key_is : (a b : Key) → is_key a b ≡ true → a ≡ b
key_is a b e =
    let t = both (is_path a.names b.names) (is_part a.part b.part) e in
    let p = path_is a.names b.names t.0 in
    let q = part_is a.part b.part t.1 in λ i. record { names = p i; part = q i }

own_path : (names : List (List ℕ)) → is_path names names ≡ true
own_path [] = refl
own_path (name ∷ names) = λ i. own_name name i && own_path names i

times_append : (key : Key) (xs ys : List Key) → times key (xs ++ ys) ≡ times key xs + times key ys
times_append key [] ys = omega arith
times_append key (x ∷ xs) ys = by (is_key key x) (times_append key xs ys)
  where
    by : (b : Bool) → times key (xs ++ ys) ≡ times key xs + times key ys
        → cond b (times key (xs ++ ys) + 1) (times key (xs ++ ys)) ≡ cond b (times key xs + 1) (times key xs) + times key ys
    by true h = omega arith
    by false h = h

-- ---- the keys of one path

module _ (part : Option ℕ) (names : List (List ℕ)) where
  -- a key of another path
  other_parts : (path : List (List ℕ)) → is_path names path ≡ false → (n : ℕ) (ps : List MembersTree) → times (key_of part names) (part_keys path n ps) ≡ 0
  other_parts path e n [] = refl
  other_parts path e n (p ∷ ps) =
      (λ i. cond (e i && is_part part (Some n)) (times (key_of part names) (part_keys path (n + 1) ps) + 1) (times (key_of part names) (part_keys path (n + 1) ps))) ∙ other_parts path e (n + 1) ps

  other_keys : (path : List (List ℕ)) → is_path names path ≡ false → (o : Option KindTree) → times (key_of part names) (keys_at path o) ≡ 0
  other_keys path e (Some (extended last ps)) =
      (λ i. cond (e i && is_part part None) (times (key_of part names) (part_keys path 0 ps) + 1) (times (key_of part names) (part_keys path 0 ps))) ∙ other_parts path e 0 ps
  other_keys path e _ = λ i. cond (e i && is_part part None) 1 0

  -- among the keys of paths
  none_among : (rule : List (List ℕ) → Option KindTree) (paths : List (List (List ℕ))) → path_times names paths ≡ 0 → times (key_of part names) (flat_map (λ p. keys_at p (rule p)) paths) ≡ 0
  none_among rule [] e = refl
  none_among rule (p ∷ paths) e = by (is_path names p) refl e (λ f. none_among rule paths f)
    where
      by : (b : Bool) → is_path names p ≡ b → cond b (path_times names paths + 1) (path_times names paths) ≡ 0 → (path_times names paths ≡ 0 → times (key_of part names) (flat_map (λ p. keys_at p (rule p)) paths) ≡ 0)
          → times (key_of part names) (keys_at p (rule p) ++ flat_map (λ p. keys_at p (rule p)) paths) ≡ 0
      by true q e later = absurd (omega (arith, e))
      by false q e later = times_append (key_of part names) (keys_at p (rule p)) (flat_map (λ p. keys_at p (rule p)) paths) ∙ (λ i. other_keys p q (rule p) i + later e i)

  once_among : (rule : List (List ℕ) → Option KindTree) (paths : List (List (List ℕ))) → path_times names paths ≡ 1 → times (key_of part names) (flat_map (λ p. keys_at p (rule p)) paths) ≡ times (key_of part names) (keys_at names (rule names))
  once_among rule [] e = absurd (omega (arith, e))
  once_among rule (p ∷ paths) e = times_append (key_of part names) (keys_at p (rule p)) (flat_map (λ p. keys_at p (rule p)) paths) ∙ by (is_path names p) refl e (λ f. once_among rule paths f)
    where
      by : (b : Bool) → is_path names p ≡ b → cond b (path_times names paths + 1) (path_times names paths) ≡ 1
          → (path_times names paths ≡ 1 → times (key_of part names) (flat_map (λ p. keys_at p (rule p)) paths) ≡ times (key_of part names) (keys_at names (rule names)))
          → times (key_of part names) (keys_at p (rule p)) + times (key_of part names) (flat_map (λ p. keys_at p (rule p)) paths) ≡ times (key_of part names) (keys_at names (rule names))
      by true q e later =
          let none = none_among rule paths (omega (arith, e)) in
          let same = ap (λ x. times (key_of part names) (keys_at x (rule x))) (sym (path_is names p q)) in omega (arith, none, same)
      by false q e later = let here = other_keys p q (rule p) in let rest = later e in omega (arith, here, rest)

-- ---- a key of a path, itself or a part

abbrev HasPart : Option ℕ → KindTree → Type 0
HasPart None k = Unit {0}
HasPart (Some i) (extended last ps) = i < length ps
HasPart (Some i) _ = ⊥

abbrev LeadsTo : Option ℕ → Option KindTree → Type 0
LeadsTo part None = ⊥
LeadsTo part (Some k) = HasPart part k

module _ (names : List (List ℕ)) where
  -- not among parts
  no_part : (n : ℕ) (ps : List MembersTree) → times (key_of None names) (part_keys names n ps) ≡ 0
  no_part n [] = refl
  no_part n (p ∷ ps) = by (is_path names names) (no_part (n + 1) ps)
    where
      by : (b : Bool) → times (key_of None names) (part_keys names (n + 1) ps) ≡ 0 → cond (b && false) (times (key_of None names) (part_keys names (n + 1) ps) + 1) (times (key_of None names) (part_keys names (n + 1) ps)) ≡ 0
      by true h = h
      by false h = h

  part_later : (i n : ℕ) (ps : List MembersTree) → i < n → times (key_of (Some i) names) (part_keys names n ps) ≡ 0
  part_later i n [] h = refl
  part_later i n (p ∷ ps) h =
      (λ j. cond (own_path names j && ne_eqb i n (λ e. absurd (omega arith)) j) (times (key_of (Some i) names) (part_keys names (n + 1) ps) + 1) (times (key_of (Some i) names) (part_keys names (n + 1) ps)))
      ∙ part_later i (n + 1) ps (omega arith)

  part_once : (i n : ℕ) (ps : List MembersTree) → n ≤ i → i < n + length ps → times (key_of (Some i) names) (part_keys names n ps) ≡ 1
  part_once i n [] h k = absurd (omega arith)
  part_once i n (p ∷ ps) h k =
      ap (λ b. cond (b && (i == n)) (times (key_of (Some i) names) (part_keys names (n + 1) ps) + 1) (times (key_of (Some i) names) (part_keys names (n + 1) ps))) (own_path names) ∙ by (i == n) refl (λ l m. part_once i (n + 1) ps l m)
    where
      by : (b : Bool) → (i == n) ≡ b → (n + 1 ≤ i → i < n + 1 + length ps → times (key_of (Some i) names) (part_keys names (n + 1) ps) ≡ 1)
          → cond b (times (key_of (Some i) names) (part_keys names (n + 1) ps) + 1) (times (key_of (Some i) names) (part_keys names (n + 1) ps)) ≡ 1
      by true e later = let same = eqb-true i n e in ap (λ m. m + 1) (part_later i (n + 1) ps (omega arith))
      by false e later = let l = above (cases_lt n i) e in later (omega arith) (omega arith)
        where
          above : (n < i) ⊎ (i ≤ n) → (i == n) ≡ false → n < i
          above (inl l) e = l
          above (inr l) e = let same : i ≡ n = omega arith in let q = eq-eqb i n same in cc

  own_once : times (key_of None names) (record { names = names; part = None } ∷ []) ≡ 1
  own_once = ap (λ b. cond (b && true) 1 0) (own_path names)

  key_once : (part : Option ℕ) (o : Option KindTree) → LeadsTo part o → times (key_of part names) (keys_at names o) ≡ 1
  key_once part None e = absurd e
  key_once None (Some (extended last ps)) e =
      ap (λ b. cond (b && true) (times (key_of None names) (part_keys names 0 ps) + 1) (times (key_of None names) (part_keys names 0 ps))) (own_path names) ∙ ap (λ n. n + 1) (no_part 0 ps)
  key_once (Some i) (Some (extended last ps)) e =
      ap (λ b. cond (b && false) (times (key_of (Some i) names) (part_keys names 0 ps) + 1) (times (key_of (Some i) names) (part_keys names 0 ps))) (own_path names) ∙ part_once i 0 ps (omega arith) (omega (arith, e))
  key_once None (Some (fixed f)) e = own_once
  key_once None (Some (counted size k)) e = own_once
  key_once None (Some (by_fx f)) e = own_once
  key_once None (Some explicit) e = own_once
  key_once None (Some (compound ss)) e = own_once
  key_once (Some i) (Some _) e = absurd e

-- ---- what is present leads to a kind, or to a part of it

part_within : (i : ℕ) (ps : List MembersTree) (ls : ListsTree) (entry : NamedEntry) → part_entry i ps ls ≡ Some entry → i < length ps
part_within i [] ls entry e = cc
part_within i (p ∷ ps) no_lists entry e = cc
part_within zero (p ∷ ps) (list_and vs ls) entry e = omega arith
part_within (suc i) (p ∷ ps) (list_and vs ls) entry e = let h = part_within i ps ls entry e in omega arith

own_leads : (part : Option ℕ) (k : KindTree) (v : ValueTree) (entry : NamedEntry) → entry_of part k v ≡ Some entry → HasPart part k
own_leads None k v entry e = tt
own_leads (Some i) (extended last ps) (part_values ls) entry e = part_within i ps ls entry e
own_leads (Some i) _ _ entry e = cc

leads : (part : Option ℕ) (names : List (List ℕ)) (k : KindTree) (v : ValueTree) (entry : NamedEntry) → entry_at part names k v ≡ Some entry → LeadsTo part (kind_at names k)
leads part [] k v entry e = own_leads part k v entry e
leads part (name ∷ names) (compound ss) (marked es) entry e = by_slot (λ s v f. leads part names s.1 v entry f) (slot_named 1 name ss) e
  where
    by_value : (s : ℕ × KindTree) (o : Option ValueTree) → ((v : ValueTree) → entry_at part names s.1 v ≡ Some entry → LeadsTo part (kind_at names s.1)) → option_and_then (entry_at part names s.1) o ≡ Some entry → LeadsTo part (kind_at names s.1)
    by_value s None below e = cc
    by_value s (Some v) below e = below v e

    by_slot : ((s : ℕ × KindTree) (v : ValueTree) → entry_at part names s.1 v ≡ Some entry → LeadsTo part (kind_at names s.1)) → (o : Option (ℕ × KindTree))
        → option_and_then (λ s. option_and_then (entry_at part names s.1) (slot_value s.0 es)) o ≡ Some entry → LeadsTo part (option_and_then (λ s. kind_at names s.1) o)
    by_slot below None e = cc
    by_slot below (Some s) e = by_value s (slot_value s.0 es) (below s) e
leads part (name ∷ names) _ v entry e = cc

some_kind : (part : Option ℕ) (o : Option KindTree) → LeadsTo part o → is_some o ≡ true
some_kind part None e = absurd e
some_kind part (Some k) e = refl

-- ---- a filter keeps what passes

times_kept : (test : Key → Bool) (key : Key) (xs : List Key) → times key (filter test xs) ≡ cond (test key) (times key xs) 0
times_kept test key [] = by (test key)
  where
    by : (b : Bool) → times key [] ≡ cond b (times key []) 0
    by true = refl
    by false = refl
times_kept test key (x ∷ xs) = by (test x) (test key) (is_key key x) refl refl refl (times_kept test key xs)
  where
    by : (b c d : Bool) → test x ≡ b → test key ≡ c → is_key key x ≡ d → times key (filter test xs) ≡ cond c (times key xs) 0
        → times key (cond b (x ∷ filter test xs) (filter test xs)) ≡ cond c (cond d (times key xs + 1) (times key xs)) 0
    by true true d p q r h = (λ i. cond (r i) (h i + 1) (h i))
    by true false true p q r h = let same = ap test (key_is key x r) in cc
    by true false false p q r h = ap (λ y. cond y (times key (filter test xs) + 1) (times key (filter test xs))) r ∙ h
    by false true true p q r h = let same = ap test (key_is key x r) in cc
    by false true false p q r h = h
    by false false d p q r h = h

kept_or_lost_at : (old new : SpecTree) (es made : EntriesTree) (part : Option ℕ) (names : List (List ℕ)) (entry : NamedEntry) → Distinct (record_kind old) → Migrated old new es made → Named old es (key_of part names) ≡ Some entry
    → KeptOrLost old new es made (key_of part names) entry
kept_or_lost_at old new es made part [] entry d m e = cc
kept_or_lost_at old new es made part (name ∷ names) entry d m e = by (Shared old new key) refl
  where
    key : Key
    key = key_of part (name ∷ names)

    at : LeadsTo part (kind_at (name ∷ names) (record_kind old))
    at = leads part (name ∷ names) (record_kind old) (marked es) entry e

    once : times key (named_keys old) ≡ 1
    once =
        once_among part (name ∷ names) (λ p. kind_at p (record_kind old)) (named_paths old) (slot_once 1 [] name names (record_slots old) d (some_kind part (kind_at (name ∷ names) (record_kind old)) at))
        ∙ key_once (name ∷ names) part (kind_at (name ∷ names) (record_kind old)) at

    lost : times key (Lost old new es) ≡ cond (not (Shared old new key)) (times key (named_keys old)) 0
    lost = times_kept (is_lost old new es) key (named_keys old) ∙ ap (λ o. cond (is_some o && not (Shared old new key)) (times key (named_keys old)) 0) e

    by : (b : Bool) → Shared old new key ≡ b → KeptOrLost old new es made key entry
    by true s = inl (m.named key ∙ (λ i. kept_where (s i) (e i)), lost ∙ ap (λ b. cond (not b) (times key (named_keys old)) 0) s)
    by false s = inr (m.named key ∙ ap (λ b. kept_where b (Named old es key)) s, lost ∙ ap (λ b. cond (not b) (times key (named_keys old)) 0) s ∙ once)

pub kept_or_lost : (old new : SpecTree) (es made : EntriesTree) (key : Key) (entry : NamedEntry) → Distinct (record_kind old) → Migrated old new es made → Named old es key ≡ Some entry
    → KeptOrLost old new es made key entry
kept_or_lost old new es made key entry d m e = kept_or_lost_at old new es made key.part key.names entry d m e

-- what is lost was present
pub lost_present : (old new : SpecTree) (es : EntriesTree) (key : Key) → Named old es key ≡ None → times key (Lost old new es) ≡ 0
lost_present old new es key e = times_kept (is_lost old new es) key (named_keys old) ∙ ap (λ o. cond (is_some o && not (Shared old new key)) (times key (named_keys old)) 0) e
