-- Each key that is present has exactly one fate; and each block exactly one conversion.
use Rattle.std.proofs.Common.{◌≡◌, ℕ, ◌+◌, ◌<◌, Bool, true, false, cond, ◌&&◌, not, is_some, List, [], ◌∷◌, ◌++◌, length, map, Option, Some, None, option_map, option_and_then, refl, sym, ◌∙◌, ap, subst, arith, append_assoc}
use Rattle.std.specs.List.{AllByRecursion}
use Rattle.ax_format.specs.Blocks.{BlockTree, read_block, Fits}
use Rattle.ax_format.specs.Flaws.{NoFlaw}
use Rattle.ax_format.specs.Named.{Key, NamedEntry, own_entry, named_keys, kind_at, Named}
use Rattle.ax_format.specs.Shared.{is_shared_at, are_shared, shared_names, Shared}
use Rattle.ax_format.specs.Specification.{SpecTree, record_kind}
use Rattle.ax_format.specs.Tree.{EntriesTree, KindTree, fixed, extended, counted, by_fx, explicit, compound, ValueTree, marked}
use Rattle.ax_relation.specs.Fates.{times}
use Rattle.ax_rescale.proofs.AlikeKinds.{alike_kinds, kinds_alike}
use Rattle.ax_rescale.proofs.ConversionOnce.{conversion_is_block, block_converts}
use Rattle.ax_rescale.proofs.ValueFunction.{is_value, value_is}
use Rattle.ax_rescale.specs.Alike.{Alike, is_alike, is_plain}
use Rattle.ax_rescale.specs.Conversion.{BlockConversion, Conversion, KindPair, alike_pair, convertible, converted_entry, passed, is_missed, Missed}
use Rattle.ax_rescale.specs.ConvertedRecord.{converted_block}
use Rattle.ax_rescale.specs.ConvertedValue.{converted_value}
use Rattle.ax_rescale.specs.Misses.{miss, misses_from, block_misses}
use Rattle.ax_rescale.specs.declared.miss.Miss.{Miss}
use Rattle.ax_laws.proofs.KeyCounts.{times_kept, key_once}
use Rattle.ax_laws.proofs.PathValues.{kind_scaled, entry_is}
use Rattle.ax_laws.specs.KeyFates.{StandAt, CanConvert, IsKept, IsConverted, Fate, kept, converted, unconverted, lost, HasFate, StandTogether}

-- ---- kinds at a path

some_kind : (k l : KindTree) → Some k ≡ Some l → k ≡ l
some_kind k l e = cc

record Found (old new : SpecTree) (key : Key) (P : KindTree → KindTree → Type 0) : Type 0 where
  from : KindTree
  to : KindTree
  stand : StandAt old new key from to
  holds : P from to

shared_found : (old new : SpecTree) (key : Key) → Shared old new key ≡ true → Found old new key (λ k l. is_shared_at key.part k l ≡ true)
shared_found old new key s = by key.names key.part s
  where
    at : (o p : Option KindTree) (part : Option ℕ) → are_shared part o p ≡ true → (k : KindTree) × (l : KindTree) × (o ≡ Some k) × (p ≡ Some l) × (is_shared_at part k l ≡ true)
    at (Some k) (Some l) part e = (k, l, refl, refl, e)
    at None p part e = absurd cc
    at (Some k) None part e = absurd cc

    by : (names : List (List ℕ)) (part : Option ℕ) → shared_names old new part names ≡ true → Found old new (record { names = names; part = part }) (λ k l. is_shared_at part k l ≡ true)
    by [] part e = absurd cc
    by (name ∷ names) part e = let f = at (kind_at (name ∷ names) (record_kind old)) (kind_at (name ∷ names) (record_kind new)) part e in record { from = f.0; to = f.1; stand = record { in_old = f.2; in_new = f.3 }; holds = f.4 }

-- of a key that is present
unshared_at : (old new : SpecTree) (entries : EntriesTree) (key : Key) (entry : NamedEntry) (k l : KindTree) → Named old entries key ≡ Some entry → Shared old new key ≡ false → StandAt old new key k l → is_shared_at key.part k l ≡ false
unshared_at old new entries key entry k l e s stand = by key.names key.part e s stand.in_old stand.in_new
  where
    by : (names : List (List ℕ)) (part : Option ℕ) → Named old entries (record { names = names; part = part }) ≡ Some entry → shared_names old new part names ≡ false → kind_at names (record_kind old) ≡ Some k → kind_at names (record_kind new) ≡ Some l
        → is_shared_at part k l ≡ false
    by [] part there u a b = absurd cc
    by (name ∷ names) part there u a b = sym (λ i. are_shared part (a i) (b i)) ∙ u

unshared_pair : (old new : SpecTree) (key : Key) → Shared old new key ≡ false → convertible old new key ≡ alike_pair key.part (kind_at key.names (record_kind old)) (kind_at key.names (record_kind new))
unshared_pair old new key s = ap (λ b. cond b None (alike_pair key.part (kind_at key.names (record_kind old)) (kind_at key.names (record_kind new)))) s

pair_found : (old new : SpecTree) (key : Key) (pair : KindPair) → Shared old new key ≡ false → convertible old new key ≡ Some pair → StandAt old new key pair.old pair.new × (key.part ≡ None) × Alike pair.old pair.new
pair_found old new key pair s c = by key.part (kind_at key.names (record_kind old)) (kind_at key.names (record_kind new)) refl refl refl (sym (unshared_pair old new key s) ∙ c)
  where
    choose : (b : Bool) (k l : KindTree) → is_alike k l ≡ b → cond b (Some (let p : KindPair = record { old = k; new = l } in p)) None ≡ Some pair → (k ≡ pair.old) × (l ≡ pair.new) × Alike k l
    choose true k l a e = let same : (let p : KindPair = record { old = k; new = l } in p) ≡ pair = some_pair _ pair e in (ap (λ p. p.old) same, ap (λ p. p.new) same, alike_kinds k l a)
      where
        some_pair : (p q : KindPair) → Some p ≡ Some q → p ≡ q
        some_pair p q e = cc
    choose false k l a e = absurd cc

    by : (part : Option ℕ) (o p : Option KindTree) → key.part ≡ part → kind_at key.names (record_kind old) ≡ o → kind_at key.names (record_kind new) ≡ p → alike_pair part o p ≡ Some pair → StandAt old new key pair.old pair.new × (key.part ≡ None) × Alike pair.old pair.new
    by None (Some k) (Some l) w a b e =
        let c = choose (is_alike k l) k l refl e in
        (record { in_old = a ∙ ap Some c.0; in_new = b ∙ ap Some c.1 }, w, subst (λ x. Alike x pair.new) c.0 (subst (λ y. Alike k y) c.1 c.2))
    by None (Some k) None w a b e = absurd cc
    by None None p w a b e = absurd cc
    by (Some i) o p w a b e = absurd cc

-- kinds that can be converted are the pair
pair_of : (old new : SpecTree) (key : Key) (k l : KindTree) → Shared old new key ≡ false → CanConvert old new key k l → convertible old new key ≡ Some (record { old = k; new = l })
pair_of old new key k l s can =
    unshared_pair old new key s ∙ (λ i. alike_pair (can.whole i) (can.stand.in_old i) (can.stand.in_new i)) ∙ ap (λ b. cond b (Some (let p : KindPair = record { old = k; new = l } in p)) None) (kinds_alike k l can.alike)

plain_entry : (pair : KindPair) (k : KindTree) (v : ValueTree) → is_plain k ≡ true → converted_entry pair (own_entry k v) ≡ option_map (own_entry pair.new) (converted_value pair.old pair.new v)
plain_entry pair (fixed f) v e = refl
plain_entry pair (counted size k) v e = refl
plain_entry pair (by_fx f) v e = refl
plain_entry pair explicit v e = refl
plain_entry pair (compound ss) v e = absurd cc
plain_entry pair (extended last ps) v e = absurd cc

-- ---- one fate

module _ (old new : SpecTree) (entries made : EntriesTree) (key : Key) (m : Conversion old new entries made) (clean : NoFlaw old) where
  module _ (entry : NamedEntry) (e : Named old entries key ≡ Some entry) where
    named_is : (o : Option NamedEntry) → passed old new key (Some entry) ≡ o → Named new made key ≡ o
    named_is o q = m.named key ∙ ap (passed old new key) e ∙ q

    missed_is : (o : Option NamedEntry) → passed old new key (Some entry) ≡ o → times key (Missed old new entries) ≡ cond (not (is_some o)) 1 0
    missed_is o q =
        times_kept (is_missed old new entries) key (named_keys old) ∙ ap (λ x. cond (is_some x && not (is_some (passed old new key x))) (times key (named_keys old)) 0) e
        ∙ (λ i. cond (not (is_some (q i))) (key_once old entries key entry clean e i) 0)

    goes : (s : Shared old new key ≡ false) (o : Option KindPair) → convertible old new key ≡ o → passed old new key (Some entry) ≡ option_and_then (λ pair. converted_entry pair entry) o
    goes s o c = ap (λ b. cond b (Some entry) (option_and_then (λ pair. converted_entry pair entry) (convertible old new key))) s ∙ ap (option_and_then (λ pair. converted_entry pair entry)) c

    module _ (new_clean : NoFlaw new) (s : Shared old new key ≡ false) where
      by_value : (pair : KindPair) → convertible old new key ≡ Some pair → (can : CanConvert old new key pair.old pair.new) (value : ValueTree) → entry ≡ own_entry pair.old value → (o : Option ValueTree) → converted_value pair.old pair.new value ≡ o
          → (fate : Fate) × HasFate old new entries made key entry fate
      by_value pair c can value was (Some x) n =
          let q : passed old new key (Some entry) ≡ Some (own_entry pair.new x) = goes s (Some pair) c ∙ ap (converted_entry pair) was ∙ plain_entry pair pair.old value can.alike.old_plain ∙ ap (option_map (own_entry pair.new)) n in
          (converted, record { from = pair.old; to = pair.new; can = can; value = value; was = was; converted = x; by = is_value pair.old pair.new value x n; is = named_is (Some (own_entry pair.new x)) q; not_missed = missed_is (Some (own_entry pair.new x)) q })
      by_value pair c can value was None n =
          let q : passed old new key (Some entry) ≡ None = goes s (Some pair) c ∙ ap (converted_entry pair) was ∙ plain_entry pair pair.old value can.alike.old_plain ∙ ap (option_map (own_entry pair.new)) n in (
            unconverted,
            record {
              from = pair.old;
              to = pair.new;
              can = can;
              value = value;
              was = was;
              none = λ x h. absurd (
                  let some = value_is pair.old pair.new value x (kind_scaled old key.names pair.old clean can.stand.in_old) (kind_scaled new key.names pair.new new_clean can.stand.in_new) h in
                  let bad : None ≡ Some x = sym n ∙ some in cc);
              gone = named_is None q;
              missed = missed_is None q;
            },
          )

      own_value : (k : KindTree) → key.part ≡ None → kind_at key.names (record_kind old) ≡ Some k → (value : ValueTree) × (entry ≡ own_entry k value)
      own_value k whole a = by key.names key.part whole a e
        where
          by : (names : List (List ℕ)) (part : Option ℕ) → part ≡ None → kind_at names (record_kind old) ≡ Some k → Named old entries (record { names = names; part = part }) ≡ Some entry → (value : ValueTree) × (entry ≡ own_entry k value)
          by names (Some i) w b there = absurd cc
          by [] None w b there = absurd cc
          by (name ∷ names) None w b there = entry_is (name ∷ names) (record_kind old) (marked entries) k entry there b

      by_convertible : (o : Option KindPair) → convertible old new key ≡ o → (fate : Fate) × HasFate old new entries made key entry fate
      by_convertible None c = (
        lost,
        record {
          unshared = λ k l stand. unshared_at old new entries key entry k l e s stand;
          never = λ k l can. absurd (let bad = sym c ∙ pair_of old new key k l s can in cc);
          gone = named_is None (goes s None c);
          missed = missed_is None (goes s None c);
        },
      )
      by_convertible (Some pair) c =
          let f = pair_found old new key pair s c in
          let own = own_value pair.old f.1 f.0.in_old in
          by_value pair c (record { stand = f.0; unshared = unshared_at old new entries key entry pair.old pair.new e s f.0; whole = f.1; alike = f.2 }) own.0 own.1 (converted_value pair.old pair.new own.0) refl

    by_shared : NoFlaw new → (b : Bool) → Shared old new key ≡ b → (fate : Fate) × HasFate old new entries made key entry fate
    by_shared new_clean true s =
        let q : passed old new key (Some entry) ≡ Some entry = ap (λ b. cond b (Some entry) (option_and_then (λ pair. converted_entry pair entry) (convertible old new key))) s in
        let f = shared_found old new key s in
        (kept, record { from = f.from; to = f.to; stand = f.stand; shared = f.holds; same = named_is (Some entry) q; not_missed = missed_is (Some entry) q })
    by_shared new_clean false s = by_convertible new_clean s (convertible old new key) refl

nothing_passes : (b : Bool) (o : Option KindPair) → cond b None (option_and_then (λ pair. option_and_then (converted_entry pair) None) o) ≡ None
nothing_passes true o = refl
nothing_passes false None = refl
nothing_passes false (Some pair) = refl

pub absent_key : (old new : SpecTree) (entries made : EntriesTree) (key : Key) → Conversion old new entries made → Named old entries key ≡ None → (Named new made key ≡ None) × (times key (Missed old new entries) ≡ 0)
absent_key old new entries made key m e = (
  m.named key ∙ ap (passed old new key) e ∙ nothing_passes (Shared old new key) (convertible old new key),
  times_kept (is_missed old new entries) key (named_keys old) ∙ ap (λ x. cond (is_some x && not (is_some (passed old new key x))) (times key (named_keys old)) 0) e,
)

pub some_fate : (old new : SpecTree) (entries made : EntriesTree) (key : Key) (entry : NamedEntry) → NoFlaw old → NoFlaw new → Conversion old new entries made → Named old entries key ≡ Some entry → (fate : Fate) × HasFate old new entries made key entry fate
some_fate old new entries made key entry clean new_clean m e = by_shared old new entries made key m clean entry e new_clean (Shared old new key) refl

some_or_none : (named : Option NamedEntry) (entry : NamedEntry) → named ≡ Some entry → named ≡ None → ⊥
some_or_none named entry e f = let bad : Some entry ≡ None = sym e ∙ f in cc

-- two kinds that stand at one path are the same
stand_once : (old new : SpecTree) (key : Key) (k l p q : KindTree) → StandAt old new key k l → StandAt old new key p q → (k ≡ p) × (l ≡ q)
stand_once old new key k l p q a b = (some_kind k p (sym a.in_old ∙ b.in_old), some_kind l q (sym a.in_new ∙ b.in_new))

shared_or_not : (old new : SpecTree) (entries made : EntriesTree) (key : Key) (entry : NamedEntry) → IsKept old new entries made key entry → IsConverted old new entries made key entry → ⊥
shared_or_not old new _ _ key _ h g =
    let same = stand_once old new key h.from h.to g.from g.to h.stand g.can.stand in
    let bad : true ≡ false = sym h.shared ∙ (λ i. is_shared_at key.part (same.0 i) (same.1 i)) ∙ g.can.unshared in cc

pub one_fate : (old new : SpecTree) (entries made : EntriesTree) (key : Key) (entry : NamedEntry) (fate other : Fate) → HasFate old new entries made key entry fate → HasFate old new entries made key entry other → fate ≡ other
one_fate _ _ _ _ _ _ kept kept h g = refl
one_fate old new entries made key entry kept converted h g = absurd (shared_or_not old new entries made key entry h g)
one_fate _ _ _ _ _ entry kept unconverted h g = absurd (some_or_none _ entry h.same g.gone)
one_fate _ _ _ _ _ entry kept lost h g = absurd (some_or_none _ entry h.same g.gone)
one_fate old new entries made key entry converted kept h g = absurd (shared_or_not old new entries made key entry g h)
one_fate _ _ _ _ _ _ converted converted h g = refl
one_fate _ _ _ _ _ _ converted unconverted h g = absurd (some_or_none _ (own_entry h.to h.converted) h.is g.gone)
one_fate _ _ _ _ _ _ converted lost h g = absurd (some_or_none _ (own_entry h.to h.converted) h.is g.gone)
one_fate _ _ _ _ _ entry unconverted kept h g = absurd (some_or_none _ entry g.same h.gone)
one_fate _ _ _ _ _ _ unconverted converted h g = absurd (some_or_none _ (own_entry g.to g.converted) g.is h.gone)
one_fate _ _ _ _ _ _ unconverted unconverted h g = refl
one_fate _ _ _ _ _ _ unconverted lost h g = absurd (g.never h.from h.to h.can)
one_fate _ _ _ _ _ entry lost kept h g = absurd (some_or_none _ entry g.same h.gone)
one_fate _ _ _ _ _ _ lost converted h g = absurd (some_or_none _ (own_entry g.to g.converted) g.is h.gone)
one_fate _ _ _ _ _ _ lost unconverted h g = absurd (h.never g.from g.to g.can)
one_fate _ _ _ _ _ _ lost lost h g = refl

-- ---- the misses of a block

record_misses : (old new : SpecTree) (n k : ℕ) (keys : List Key) → n < k → AllByRecursion (λ (m : Miss). m.record_at < k) (map (miss old new n) keys)
record_misses old new n k [] lt = tt
record_misses old new n k (key ∷ keys) lt = (lt, record_misses old new n k keys lt)

later_misses : (old new : SpecTree) (n k : ℕ) (keys : List Key) → k < n → AllByRecursion (λ (m : Miss). k < m.record_at) (map (miss old new n) keys)
later_misses old new n k [] lt = tt
later_misses old new n k (key ∷ keys) lt = (lt, later_misses old new n k keys lt)

all_append : (P : Miss → Type 0) (xs ys : List Miss) → AllByRecursion P xs → AllByRecursion P ys → AllByRecursion P (xs ++ ys)
all_append P [] ys h g = g
all_append P (x ∷ xs) ys h g = (h.0, all_append P xs ys h.1 g)

all_later : (old new : SpecTree) (n k : ℕ) (records : List EntriesTree) → k < n → AllByRecursion (λ (m : Miss). k < m.record_at) (misses_from old new n records)
all_later old new n k [] lt = tt
all_later old new n k (r ∷ records) lt =
    all_append (λ m. k < m.record_at) (map (miss old new n) (Missed old new r)) (misses_from old new (n + 1) records) (later_misses old new n k (Missed old new r) lt) (all_later old new (n + 1) k records (omega arith))

misses_together : (old new : SpecTree) (n : ℕ) (before : List EntriesTree) (entries : EntriesTree) (after : List EntriesTree) → StandTogether (n + length before) (map (miss old new (n + length before)) (Missed old new entries)) (misses_from old new n (before ++ entries ∷ after))
misses_together old new n [] entries after =
    let same : n + 0 ≡ n = omega arith in
    subst (λ k. StandTogether k (map (miss old new k) (Missed old new entries)) (misses_from old new n (entries ∷ after))) (sym same) (record {
      earlier = [];
      later = misses_from old new (n + 1) after;
      split = refl;
      before = tt;
      after = all_later old new (n + 1) n after (omega arith);
    })
misses_together old new n (r ∷ before) entries after =
    let t = misses_together old new (n + 1) before entries after in
    let same : n + 1 + length before ≡ n + length (r ∷ before) = omega arith in
    let own = map (miss old new n) (Missed old new r) in
    subst (λ k. StandTogether k (map (miss old new k) (Missed old new entries)) (misses_from old new n (r ∷ (before ++ entries ∷ after)))) same (record {
      earlier = own ++ t.earlier;
      later = t.later;
      split = ap (λ x. own ++ x) t.split ∙ sym (append_assoc own t.earlier (map (miss old new (n + 1 + length before)) (Missed old new entries) ++ t.later));
      before = all_append (λ m. m.record_at < n + 1 + length before) own t.earlier (record_misses old new n (n + 1 + length before) (Missed old new r) (omega arith)) t.before;
      after = t.after;
    })

pub block_misses_together : (old new : SpecTree) (category : ℕ) (before : List EntriesTree) (entries : EntriesTree) (after : List EntriesTree)
    → StandTogether (length before) (map (miss old new (length before)) (Missed old new entries)) (block_misses old new (read_block category (before ++ entries ∷ after)))
block_misses_together old new category before entries after =
    let same : 0 + length before ≡ length before = omega arith in
    subst (λ k. StandTogether k (map (miss old new k) (Missed old new entries)) (misses_from old new 0 (before ++ entries ∷ after))) same (misses_together old new 0 before entries after)

-- ---- blocks

pub some_conversion : (old new : SpecTree) (block : BlockTree) → Fits old block → BlockConversion old new block (converted_block old new block)
some_conversion old new block f = block_converts old new block (converted_block old new block) f refl

pub one_conversion : (old new : SpecTree) (block made other : BlockTree) → NoFlaw new → Fits old block → BlockConversion old new block made → BlockConversion old new block other → made ≡ other
one_conversion old new block made other n f m o = conversion_is_block old new block made n f m ∙ sym (conversion_is_block old new block other n f o)

pub ruleset key_fates = (some_fate, one_fate, absent_key)
