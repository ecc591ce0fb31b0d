-- Of a record without a value from which something is converted, what passes is what migrates, no key that is present can be
-- converted, and the missed keys are the lost ones.
use Rattle.std.proofs.Common.{◌≡◌, ℕ, ◌+◌, Bool, true, false, cond, ◌||◌, ◌&&◌, not, is_some, bytes_eq, List, [], ◌∷◌, ◌++◌, filter, Option, Some, None, option_map, option_and_then, refl, sym, ◌∙◌, ap, subst}
use Rattle.ax_relation.proofs.Lookups.{found_is}
use Rattle.ax_relation.proofs.SameKinds.{bytes_same}
use Rattle.ax_relation.specs.Moved.{entry_where, moved, moved_entries, moved_record}
use Rattle.ax_format.specs.At.{slot_value}
use Rattle.ax_format.specs.Migrated.{is_lost, Lost}
use Rattle.ax_format.specs.Named.{Key, NamedEntry, entry_at, kind_at, Named, named_keys}
use Rattle.ax_format.specs.Naming.{found_or, slot_named}
use Rattle.ax_format.specs.Same.{common_parts}
use Rattle.ax_format.specs.Shared.{is_shared_kind, are_shared, Shared}
use Rattle.ax_format.specs.Specification.{SpecTree, record_slots}
use Rattle.ax_format.specs.Tree.{KindTree, fixed, extended, counted, by_fx, explicit, compound, SlotsTree, no_slots, slot_and, spare_slot, subitem, ValueTree, part_values, marked, EntriesTree}
use Rattle.ax_relation.specs.Below.{slot_below}
use Rattle.ax_rescale.proofs.ScaledKinds.{neither}
use Rattle.ax_rescale.specs.Alike.{is_alike}
use Rattle.ax_rescale.specs.Conversion.{KindPair, alike_pair, convertible, converted_entry, is_missed, Missed}
use Rattle.ax_rescale.specs.ConvertedRecord.{slot_gets, passes, passing_entries, converted_record}
use Rattle.ax_rescale.specs.ConvertedValue.{converted_value}
use Rattle.ax_rescale.specs.Converts.{converting_of, converting_slots, mapping_converts, old_slot, some_converts, stands_in}
use Rattle.ax_rescale.specs.Mappings.{MappingTree, mapping_from, no_mappings, mappings_from, mapping_between, mapping_where, mappings_below, mappings_of}

-- ---- mappings by which nothing is converted

abbrev None_of : List MappingTree → Type 0
None_of ws = some_converts (mappings_from ws) ≡ false

none_before : (xs ys : List MappingTree) → None_of (xs ++ ys) → None_of xs
none_before [] ys h = refl
none_before (x ∷ xs) ys h =
    let both = neither (mapping_converts x) (some_converts (mappings_from (xs ++ ys))) h in
    (λ i. both.0 i || none_before xs ys both.1 i)

none_after : (xs ys : List MappingTree) → None_of (xs ++ ys) → None_of ys
none_after [] ys h = h
none_after (x ∷ xs) ys h = none_after xs ys (neither (mapping_converts x) (some_converts (mappings_from (xs ++ ys))) h).1

-- or in whose old slots nothing stands
abbrev Quiet : EntriesTree → List MappingTree → Type 0
Quiet es ws = stands_in (converting_of ws) es ≡ false

quiet_first : (es : EntriesTree) (w : MappingTree) (ws : List MappingTree) (b : Bool) → stands_in (cond b (old_slot w ∷ converting_of ws) (converting_of ws)) es ≡ false → (stands_in (cond b (old_slot w ∷ []) []) es ≡ false) × Quiet es ws
quiet_first es w ws true h = let both = neither (is_some (slot_value (old_slot w) es)) (stands_in (converting_of ws) es) h in ((λ i. both.0 i || false), both.1)
quiet_first es w ws false h = (refl, h)

quiet_and : (es : EntriesTree) (w : MappingTree) (ws : List MappingTree) (b : Bool) → stands_in (cond b (old_slot w ∷ []) []) es ≡ false → Quiet es ws → stands_in (cond b (old_slot w ∷ converting_of ws) (converting_of ws)) es ≡ false
quiet_and es w ws true h k = let e = (neither (is_some (slot_value (old_slot w) es)) false h).0 in (λ i. e i || k i)
quiet_and es w ws false h k = k

quiet_before : (es : EntriesTree) (xs ys : List MappingTree) → Quiet es (xs ++ ys) → Quiet es xs
quiet_before es [] ys h = refl
quiet_before es (x ∷ xs) ys h =
    let both = quiet_first es x (xs ++ ys) (mapping_converts x) h in quiet_and es x xs (mapping_converts x) both.0 (quiet_before es xs ys both.1)

quiet_after : (es : EntriesTree) (xs ys : List MappingTree) → Quiet es (xs ++ ys) → Quiet es ys
quiet_after es [] ys h = h
quiet_after es (x ∷ xs) ys h = quiet_after es xs ys (quiet_first es x (xs ++ ys) (mapping_converts x) h).1

-- ---- the kinds of an old slot and a new one

-- they are shared, and nothing is converted by a mapping below; or they aren't alike
data PairOf (k l : KindTree) : Type 0 where
  shared : is_shared_kind k l ≡ true → None_of (mappings_below l k) → PairOf k l
  apart : is_shared_kind k l ≡ false → is_alike k l ≡ false → PairOf k l

-- so it is, or nothing stands in the slot
data Still (es : EntriesTree) (s : ℕ) (k l : KindTree) : Type 0 where
  absent : slot_value s es ≡ None → Still es s k l
  paired : PairOf k l → Still es s k l

module _ (s t : ℕ) (k l : KindTree) where
  abbrev pair_mappings : Bool → Bool → List MappingTree
  pair_mappings b c = cond b (mapping_from s t None (common_parts k l) (mappings_from (mappings_below l k)) ∷ []) (cond c (mapping_from s t (Some (record { old = k; new = l })) 0 no_mappings ∷ []) [])

  pair_of : None_of (mapping_between s t k l (mappings_below l k)) → PairOf k l
  pair_of h = by (is_shared_kind k l) (is_alike k l) refl refl h
    where
      by : (b c : Bool) → is_shared_kind k l ≡ b → is_alike k l ≡ c → None_of (pair_mappings b c) → PairOf k l
      by true c p q n = shared p (neither (some_converts (mappings_from (mappings_below l k))) false n).0
      by false true p q n = cc
      by false false p q n = apart p q

  is_none : (o : Option ValueTree) → (is_some o || false) ≡ false → o ≡ None
  is_none None e = refl
  is_none (Some v) e = cc

  still_of : (es : EntriesTree) → Quiet es (mapping_between s t k l (mappings_below l k)) → Still es s k l
  still_of es h = by (is_shared_kind k l) (is_alike k l) (some_converts (mappings_from (mappings_below l k))) refl refl refl h
    where
      by_below : (n : Bool) → is_shared_kind k l ≡ true → some_converts (mappings_from (mappings_below l k)) ≡ n → stands_in (cond n (s ∷ []) []) es ≡ false → Still es s k l
      by_below true p r q = absent (is_none (slot_value s es) q)
      by_below false p r q = paired (shared p r)

      by : (b c n : Bool) → is_shared_kind k l ≡ b → is_alike k l ≡ c → some_converts (mappings_from (mappings_below l k)) ≡ n → Quiet es (pair_mappings b c) → Still es s k l
      by true c n p e r q = by_below (some_converts (mappings_from (mappings_below l k))) p refl q
      by false true n p e r q = absent (is_none (slot_value s es) q)
      by false false n p e r q = paired (apart p e)

-- ---- what passes

abbrev rule_of : SlotsTree → List ℕ → Option (ℕ × KindTree)
rule_of ss = λ name. slot_below name (compound ss)

abbrev never_value : ValueTree → Option ValueTree
never_value v = None

nothing : (o : Option ValueTree) → option_and_then never_value o ≡ None
nothing None = refl
nothing (Some v) = refl

-- what a new slot of the kind l gets of an old one, and what moves to it
abbrev got : KindTree → EntriesTree → ℕ × KindTree → Option ValueTree
got l es s = option_and_then (λ v. slot_gets s.1 l v (passes l s.1 v)) (slot_value s.0 es)

abbrev moves : KindTree → EntriesTree → ℕ × KindTree → Option ValueTree
moves l es s = cond (is_shared_kind s.1 l) (option_map (moved l s.1) (slot_value s.0 es)) None

abbrev no_value : Option ValueTree
no_value = None

either : (b : Bool) → cond b no_value no_value ≡ None
either true = refl
either false = refl

module _ (l : KindTree) (es : EntriesTree) (below : (k : KindTree) (v : ValueTree) → None_of (mappings_below l k) → passes l k v ≡ moved l k v) where
  value_got : (k : KindTree) (o : Option ValueTree) → None_of (mappings_below l k) → option_and_then (λ v. Some (passes l k v)) o ≡ option_map (moved l k) o
  value_got k None h = refl
  value_got k (Some v) h = ap Some (below k v h)

  slot_got : (s : ℕ × KindTree) → PairOf s.1 l → got l es s ≡ moves l es s
  slot_got s (shared p h) =
      ap (λ b. option_and_then (λ v. cond b (Some (passes l s.1 v)) (cond (is_alike s.1 l) (converted_value s.1 l v) None)) (slot_value s.0 es)) p ∙ value_got s.1 (slot_value s.0 es) h
      ∙ sym (ap (λ b. cond b (option_map (moved l s.1) (slot_value s.0 es)) None) p)
  slot_got s (apart p q) =
      (λ i. option_and_then (λ v. cond (p i) (Some (passes l s.1 v)) (cond (q i) (converted_value s.1 l v) None)) (slot_value s.0 es)) ∙ nothing (slot_value s.0 es)
      ∙ sym (ap (λ b. cond b (option_map (moved l s.1) (slot_value s.0 es)) None) p)

  still_got : (s : ℕ × KindTree) → Still es s.0 s.1 l → got l es s ≡ moves l es s
  still_got s (absent e) =
      ap (λ o. option_and_then (λ v. slot_gets s.1 l v (passes l s.1 v)) o) e ∙ sym (ap (λ o. cond (is_shared_kind s.1 l) (option_map (moved l s.1) o) None) e ∙ either (is_shared_kind s.1 l))
  still_got s (paired p) = slot_got s p

  found_got : (t : ℕ) (o : Option (ℕ × KindTree)) → None_of (mapping_where t l o (mappings_below l)) → option_and_then (got l es) o ≡ option_and_then (moves l es) o
  found_got t None h = refl
  found_got t (Some s) h = slot_got s (pair_of s.0 t s.1 l h)

  found_still : (t : ℕ) (o : Option (ℕ × KindTree)) → Quiet es (mapping_where t l o (mappings_below l)) → option_and_then (got l es) o ≡ option_and_then (moves l es) o
  found_still t None h = refl
  found_still t (Some s) h = still_got s (still_of s.0 t s.1 l es h)

mutual
  value_moves : (l k : KindTree) (v : ValueTree) → None_of (mappings_below l k) → passes l k v ≡ moved l k v
  value_moves (compound ts) (compound ss) (marked es) h = ap marked (entries_move 1 ts ss es h)
  value_moves (extended last qs) (extended other ps) (part_values ls) h = refl
  value_moves _ _ _ h = refl

  entries_move : (t : ℕ) (ts ss : SlotsTree) (es : EntriesTree) → None_of (mappings_of t ts (rule_of ss)) → passing_entries t ts ss es ≡ moved_entries t ts ss es
  entries_move t no_slots ss es h = refl
  entries_move t (slot_and spare_slot ts) ss es h = entries_move (t + 1) ts ss es h
  entries_move t (slot_and (subitem name l) ts) ss es h =
      let mapping = mapping_where t l (slot_named 1 name ss) (mappings_below l) in
      let here = found_got l es (λ k v. value_moves l k v) t (slot_named 1 name ss) (none_before mapping (mappings_of (t + 1) ts (rule_of ss)) h) in
      let later = entries_move (t + 1) ts ss es (none_after mapping (mappings_of (t + 1) ts (rule_of ss)) h) in
      (λ i. entry_where t (here i) (later i))

slots_move : (t : ℕ) (ts ss : SlotsTree) (es : EntriesTree) → Quiet es (mappings_of t ts (rule_of ss)) → passing_entries t ts ss es ≡ moved_entries t ts ss es
slots_move t no_slots ss es h = refl
slots_move t (slot_and spare_slot ts) ss es h = slots_move (t + 1) ts ss es h
slots_move t (slot_and (subitem name l) ts) ss es h =
    let mapping = mapping_where t l (slot_named 1 name ss) (mappings_below l) in
    let here = found_still l es (λ k v. value_moves l k v) t (slot_named 1 name ss) (quiet_before es mapping (mappings_of (t + 1) ts (rule_of ss)) h) in
    let later = slots_move (t + 1) ts ss es (quiet_after es mapping (mappings_of (t + 1) ts (rule_of ss)) h) in
    (λ i. entry_where t (here i) (later i))

pub record_moves : (old new : SpecTree) (es : EntriesTree) → stands_in (converting_slots old new) es ≡ false → converted_record old new es ≡ moved_record old new es
record_moves old new es h = slots_move 1 (record_slots new) (record_slots old) es h

-- ---- the mapping to the slot of a name

module _ (P : List MappingTree → Type 0) (before : (xs ys : List MappingTree) → P (xs ++ ys) → P xs) (after : (xs ys : List MappingTree) → P (xs ++ ys) → P ys) where
  slot_mapping : (n : ℕ) (name : List ℕ) (ts : SlotsTree) (s : ℕ × KindTree) (rule : List ℕ → Option (ℕ × KindTree)) → slot_named n name ts ≡ Some s → P (mappings_of n ts rule) → P (mapping_where s.0 s.1 (rule name) (mappings_below s.1))
  slot_mapping n name no_slots s rule e h = cc
  slot_mapping n name (slot_and spare_slot ts) s rule e h = slot_mapping (n + 1) name ts s rule e h
  slot_mapping n name (slot_and (subitem own l) ts) s rule e h =
      by (bytes_eq own name) refl e (λ f. slot_mapping (n + 1) name ts s rule f (after (mapping_where n l (rule own) (mappings_below l)) (mappings_of (n + 1) ts rule) h))
    where
      here : P (mapping_where n l (rule own) (mappings_below l))
      here = before (mapping_where n l (rule own) (mappings_below l)) (mappings_of (n + 1) ts rule) h

      by : (b : Bool) → bytes_eq own name ≡ b → found_or (cond b (Some l) None) n (slot_named (n + 1) name ts) ≡ Some s → (slot_named (n + 1) name ts ≡ Some s → P (mapping_where s.0 s.1 (rule name) (mappings_below s.1)))
          → P (mapping_where s.0 s.1 (rule name) (mappings_below s.1))
      by true q f later =
          let is = found_is (n, l) s f in
          subst (λ x. P (mapping_where s.0 s.1 (rule x) (mappings_below s.1))) (bytes_same own name q) (subst (λ (x : ℕ × KindTree). P (mapping_where x.0 x.1 (rule own) (mappings_below x.1))) (λ i. (is.0 i, is.1 i)) here)
      by false q f later = later f

-- the kinds to which names lead below two kinds
module _ (name : List ℕ) (names : List (List ℕ)) (below : (k l a b : KindTree) → PairOf k l → kind_at names k ≡ Some a → kind_at names l ≡ Some b → PairOf a b) where
  in_slots : (ss ts : SlotsTree) (a b : KindTree) → None_of (mappings_of 1 ts (rule_of ss)) → (o p : Option (ℕ × KindTree)) → slot_named 1 name ss ≡ o → slot_named 1 name ts ≡ p
      → option_and_then (λ s. kind_at names s.1) o ≡ Some a → option_and_then (λ s. kind_at names s.1) p ≡ Some b → PairOf a b
  in_slots ss ts a b h None p q r e f = cc
  in_slots ss ts a b h (Some s) None q r e f = cc
  in_slots ss ts a b h (Some s) (Some t) q r e f =
      below s.1 t.1 a b (pair_of s.0 t.0 s.1 t.1 (subst (λ (o : Option (ℕ × KindTree)). None_of (mapping_where t.0 t.1 o (mappings_below t.1))) q (slot_mapping None_of none_before none_after 1 name ts t (rule_of ss) r h))) e f

pair_below : (names : List (List ℕ)) (k l a b : KindTree) → PairOf k l → kind_at names k ≡ Some a → kind_at names l ≡ Some b → PairOf a b
pair_below [] k l a b p e f =
    let old : k ≡ a = cc in
    let new : l ≡ b = cc in subst (λ x. PairOf x b) old (subst (λ x. PairOf k x) new p)
pair_below (name ∷ names) (compound ss) (compound ts) a b (shared p h) e f = in_slots name names (λ k l a b. pair_below names k l a b) ss ts a b h (slot_named 1 name ss) (slot_named 1 name ts) refl refl e f
pair_below (name ∷ names) (compound ss) (compound ts) a b (apart p q) e f = cc
pair_below (name ∷ names) (fixed g) l a b p e f = cc
pair_below (name ∷ names) (extended last ps) l a b p e f = cc
pair_below (name ∷ names) (counted size k) l a b p e f = cc
pair_below (name ∷ names) (by_fx g) l a b p e f = cc
pair_below (name ∷ names) explicit l a b p e f = cc
pair_below (name ∷ names) (compound ss) (fixed g) a b p e f = cc
pair_below (name ∷ names) (compound ss) (extended last ps) a b p e f = cc
pair_below (name ∷ names) (compound ss) (counted size k) a b p e f = cc
pair_below (name ∷ names) (compound ss) (by_fx g) a b p e f = cc
pair_below (name ∷ names) (compound ss) explicit a b p e f = cc

-- ---- keys that are present

abbrev no_pair : Option KindPair
no_pair = None

neither_pair : (b : Bool) → cond b no_pair no_pair ≡ None
neither_pair true = refl
neither_pair false = refl

module _ (old new : SpecTree) (es : EntriesTree) (quiet : stands_in (converting_slots old new) es ≡ false) where
  by_pair : (k l : KindTree) → PairOf k l → cond (is_shared_kind k l) None (alike_pair None (Some k) (Some l)) ≡ None
  by_pair k l (shared p h) = ap (λ b. cond b None (alike_pair None (Some k) (Some l))) p
  by_pair k l (apart p q) = λ i. cond (p i) None (cond (q i) (Some (record { old = k; new = l })) None)

  -- the kinds at a path whose first slots are these
  at_kinds : (others : List (List ℕ)) (k l : KindTree) (o p : Option KindTree) → PairOf k l → kind_at others k ≡ o → kind_at others l ≡ p → cond (are_shared None o p) None (alike_pair None o p) ≡ None
  at_kinds others k l None p q e f = refl
  at_kinds others k l (Some a) None q e f = refl
  at_kinds others k l (Some a) (Some b) q e f = by_pair a b (pair_below others k l a b q e f)

  module _ (first : List ℕ) (others : List (List ℕ)) (entry : NamedEntry) where
    abbrev pair_at : Option (ℕ × KindTree) → Option (ℕ × KindTree) → Option KindPair
    pair_at o p =
        cond (are_shared None (option_and_then (λ s. kind_at others s.1) o) (option_and_then (λ s. kind_at others s.1) p)) None
        (alike_pair None (option_and_then (λ s. kind_at others s.1) o) (option_and_then (λ s. kind_at others s.1) p))

    by_still : (s t : ℕ × KindTree) (o : Option ValueTree) → slot_value s.0 es ≡ o → option_and_then (entry_at None others s.1) o ≡ Some entry → Still es s.0 s.1 t.1 → pair_at (Some s) (Some t) ≡ None
    by_still s t None at e x = cc
    by_still s t (Some v) at e (absent none) = let no : Some v ≡ None = sym at ∙ none in cc
    by_still s t (Some v) at e (paired p) = at_kinds others s.1 t.1 (kind_at others s.1) (kind_at others t.1) p refl refl

    no_kind : (o : Option KindTree) → cond (are_shared None o None) None (alike_pair None o None) ≡ None
    no_kind None = refl
    no_kind (Some k) = refl

    by_slots : (o p : Option (ℕ × KindTree)) → slot_named 1 first (record_slots old) ≡ o → slot_named 1 first (record_slots new) ≡ p → option_and_then (λ s. option_and_then (entry_at None others s.1) (slot_value s.0 es)) o ≡ Some entry → pair_at o p ≡ None
    by_slots None p q r e = cc
    by_slots (Some s) None q r e = no_kind (kind_at others s.1)
    by_slots (Some s) (Some t) q r e =
        by_still s t (slot_value s.0 es) refl e
        (still_of s.0 t.0 s.1 t.1 es (subst (λ (o : Option (ℕ × KindTree)). Quiet es (mapping_where t.0 t.1 o (mappings_below t.1))) q (slot_mapping (Quiet es) (quiet_before es) (quiet_after es) 1 first (record_slots new) t (rule_of (record_slots old)) r quiet)))

  of_names : (names : List (List ℕ)) (entry : NamedEntry) → Named old es (record { names = names; part = None }) ≡ Some entry → convertible old new (record { names = names; part = None }) ≡ None
  of_names [] entry e = refl
  of_names (first ∷ others) entry e = by_slots first others entry (slot_named 1 first (record_slots old)) (slot_named 1 first (record_slots new)) refl refl e

  of_part : (names : List (List ℕ)) (i : ℕ) → convertible old new (record { names = names; part = Some i }) ≡ None
  of_part names i = neither_pair (Shared old new (record { names = names; part = Some i }))

  pub not_convertible : (key : Key) (entry : NamedEntry) → Named old es key ≡ Some entry → convertible old new key ≡ None
  not_convertible key entry e = by key.part e
    where
      by : (part : Option ℕ) → Named old es (record { names = key.names; part = part }) ≡ Some entry → convertible old new (record { names = key.names; part = part }) ≡ None
      by None f = of_names key.names entry f
      by (Some i) f = of_part key.names i

  missed_lost : (key : Key) → is_missed old new es key ≡ is_lost old new es key
  missed_lost key = by (Named old es key) refl
    where
      kept : (b : Bool) (e : NamedEntry) → (is_some (Some e) && not (is_some (cond b (Some e) None))) ≡ (is_some (Some e) && not b)
      kept true e = refl
      kept false e = refl

      by : (entry : Option NamedEntry) → Named old es key ≡ entry → (is_some entry && not (is_some (cond (Shared old new key) entry (option_and_then (λ pair. option_and_then (converted_entry pair) entry) (convertible old new key))))) ≡ (is_some entry && not (Shared old new key))
      by None e = refl
      by (Some x) e = ap (λ c. is_some (Some x) && not (is_some (cond (Shared old new key) (Some x) (option_and_then (λ pair. option_and_then (converted_entry pair) (Some x)) c)))) (not_convertible key x e) ∙ kept (Shared old new key) x

  pub missed_are_lost : Missed old new es ≡ Lost old new es
  missed_are_lost = λ i. filter (λ key. missed_lost key i) (named_keys old)
