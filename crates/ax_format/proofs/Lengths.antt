-- The count along a value is that of its canonical spelling's octets.
use Rattle.std.proofs.Common.{◌≡◌, ℕ, zero, suc, ◌+◌, ◌*◌, ◌%◌, ◌<◌, ◌≤◌, ◌==◌, ◌-◌, max, Bool, true, false, cond, MatchBool, List, [], ◌∷◌, ◌++◌, length, Option, Some, refl, sym, ◌∙◌, ap, subst, arith, length-append}
use Rattle.std.proofs.lemmas.Bool.{eqb-true}
use Rattle.ax_bits.proofs.Words.{length-bits, length-word}
use Rattle.ax_bits.specs.Bits.{word, bits}
use Rattle.ax_format.proofs.CanonSpells.{fixed_spells, members_spell}
use Rattle.ax_format.proofs.FixedKinds.{fixed_length, members_length}
use Rattle.ax_format.proofs.Least.{marks_length, enough}
use Rattle.ax_format.specs.Canonical.{fixed_canon, members_canon, parts_canon, run_canon, each_canon, canon, marks_of, entries_canon}
use Rattle.ax_format.specs.InBounds.{PartsInBounds, InBounds, SlotsInBounds}
use Rattle.ax_format.specs.Lengths.{run_octets, unit_octets, kind_after, slot_kind, last_slot, presence_octets, parts_octets, octets_where, octets, each_octets, entries_octets}
use Rattle.ax_format.specs.Presence.{octets_needed, least_presence, later_marks, marks_after, marks_upto, none_marked}
use Rattle.ax_format.specs.Shape.{FixedShape, MembersShape, PartsShape, EachShape, Shape, EntriesShape}
use Rattle.ax_format.specs.Tree.{FixedTree, MembersTree, KindTree, fixed, extended, counted, by_fx, explicit, compound, SlotTree, SlotsTree, no_slots, slot_and, spare_slot, subitem, slot_count, ValueTree, part_values, occurrences, content_octets, marked, ValuesTree, no_values, value_and, value_count, ListsTree, no_lists, list_and, EntriesTree, no_entries, entry_and}
use Rattle.ax_format.specs.Widths.{width, members_width, counter_width, fx_width}
use Rattle.ax_format.specs.declared.kind.LastPart.{LastPart}
use Rattle.ax_format.proofs.Completions.{fx_few}
use Rattle.ax_format.proofs.WholeOctets.{counter_in_octets}

-- ---- presence fields

-- the number, from 1, of the last mark that isn't 0, or 0
abbrev after_zero : ℕ → ℕ
after_zero zero = zero
after_zero (suc n) = suc (suc n)

abbrev last_mark : List ℕ → ℕ
last_mark [] = 0
last_mark (zero ∷ ms) = after_zero (last_mark ms)
last_mark (suc m ∷ ms) = suc (last_mark ms)

after_zero-less : (n : ℕ) → after_zero n ≡ 0 → n ≡ 0
after_zero-less zero e = refl
after_zero-less (suc n) e = absurd (omega arith)

last_none : (ms : List ℕ) → last_mark ms ≡ 0 → none_marked ms ≡ true
last_none [] e = refl
last_none (zero ∷ ms) e = last_none ms (after_zero-less (last_mark ms) e)
last_none (suc m ∷ ms) e = absurd (omega arith)

none_last : (ms : List ℕ) → none_marked ms ≡ true → last_mark ms ≡ 0
none_last [] e = refl
none_last (zero ∷ ms) e = ap after_zero (none_last ms e)
none_last (suc m ∷ ms) e = cc

last_later : (ms : List ℕ) → last_mark (later_marks ms) ≡ last_mark ms - 1
last_later [] = refl
last_later (zero ∷ ms) = one_less (last_mark ms)
  where
    one_less : (n : ℕ) → n ≡ after_zero n - 1
    one_less zero = refl
    one_less (suc n) = omega arith
last_later (suc m ∷ ms) = omega arith

last_after : (n : ℕ) (ms : List ℕ) → last_mark (marks_after n ms) ≡ last_mark ms - n
last_after zero ms = omega arith
last_after (suc n) ms = omega (arith, last_after n (later_marks ms), last_later ms)

one_octet : (t : ℕ) → t - 7 ≡ 0 → 8 ≡ 8 * presence_octets (max 1 t)
one_octet t e = omega arith

more_octets : (t u l : ℕ) → u ≡ t - 7 → (u ≡ 0 → ⊥) → l ≡ 8 * presence_octets (max 1 u) → 8 + l ≡ 8 * presence_octets (max 1 t)
more_octets t u l e some h = omega arith

differ : {b : Bool} → b ≡ true → b ≡ false → ⊥
differ p q = cc

least_octet : (ms f : List ℕ) (b : Bool) → none_marked (marks_after 7 ms) ≡ b → (b ≡ false → length f ≡ 8 * presence_octets (max 1 (last_mark (marks_after 7 ms))))
    → length (cond b (marks_upto 7 ms ++ 0 ∷ []) (marks_upto 7 ms ++ 1 ∷ f)) ≡ 8 * presence_octets (max 1 (last_mark ms))
least_octet ms f true e h = one_octet (last_mark ms) (sym (last_after 7 ms) ∙ none_last (marks_after 7 ms) e)
least_octet ms f false e h =
    omega (arith, more_octets (last_mark ms) (last_mark (marks_after 7 ms)) (length f) (last_after 7 ms) (λ z. differ (last_none (marks_after 7 ms) z) e) (h refl))

least_length : (k : ℕ) (ms : List ℕ) → 0 < k → last_mark ms ≤ 7 * k → length (least_presence k ms) ≡ 8 * presence_octets (max 1 (last_mark ms))
least_length zero ms some le = absurd (omega arith)
least_length (suc zero) ms some le = least_octet ms [] (none_marked (marks_after 7 ms)) refl (λ e. absurd (differ (last_none (marks_after 7 ms) (omega (arith, last_after 7 ms))) e))
least_length (suc (suc k)) ms some le =
    least_octet ms (least_presence (suc k) (marks_after 7 ms)) (none_marked (marks_after 7 ms)) refl (λ e. least_length (suc k) (marks_after 7 ms) (omega arith) (omega (arith, last_after 7 ms)))

-- ---- the marks of entries

no_marks : (s : ℕ) (ss : SlotsTree) → last_mark (marks_of s ss no_entries) ≡ 0
no_marks s no_slots = refl
no_marks s (slot_and spare_slot ss) = ap after_zero (no_marks (s + 1) ss)
no_marks s (slot_and (subitem name k) ss) = ap after_zero (no_marks (s + 1) ss)

pushed : (n : ℕ) → 0 < n → after_zero n ≡ n + 1
pushed zero h = absurd (omega arith)
pushed (suc n) h = omega arith

-- the last mark of slots from s on is that of slot t
abbrev EndsAt : ℕ → List ℕ → ℕ → Type 0
EndsAt s ms t = (s + last_mark ms ≡ t + 1) × (0 < last_mark ms)

one_more : (s t : ℕ) (ms : List ℕ) → EndsAt (s + 1) ms t → EndsAt s (0 ∷ ms) t
one_more s t ms h = (omega (arith, pushed (last_mark ms) h.1, h.0), omega (arith, pushed (last_mark ms) h.1, h.1))

-- what the slots after this one end at
abbrev LaterEnd : ℕ → SlotsTree → Type 0
LaterEnd s ss = (t : ℕ) (v : ValueTree) (es : EntriesTree) → EntriesShape s ss (entry_and t v es) → EndsAt s (marks_of s ss (entry_and t v es)) (last_slot t es)

here_end : (s : ℕ) (ss : SlotsTree) (es : EntriesTree) → LaterEnd (s + 1) ss → EntriesShape (s + 1) ss es → EndsAt s (1 ∷ marks_of (s + 1) ss es) (last_slot s es)
here_end s ss no_entries later h = (omega (arith, no_marks (s + 1) ss), omega arith)
here_end s ss (entry_and t v es) later h = let e = later t v es h in (omega (arith, e.0), omega arith)

slot_end : (s : ℕ) (k : KindTree) (ss : SlotsTree) (t : ℕ) (v : ValueTree) (es : EntriesTree) (b : Bool) → (t == s) ≡ b → LaterEnd (s + 1) ss
    → MatchBool b (Shape k v × EntriesShape (s + 1) ss es) (EntriesShape (s + 1) ss (entry_and t v es))
    → EndsAt s (cond b (1 ∷ marks_of (s + 1) ss es) (0 ∷ marks_of (s + 1) ss (entry_and t v es))) (last_slot t es)
slot_end s k ss t v es true e later h = subst (λ u. EndsAt s (1 ∷ marks_of (s + 1) ss es) (last_slot u es)) (sym (eqb-true t s e)) (here_end s ss es later h.1)
slot_end s k ss t v es false e later h = one_more s (last_slot t es) (marks_of (s + 1) ss (entry_and t v es)) (later t v es h)

marks_end : (s : ℕ) (ss : SlotsTree) → LaterEnd s ss
marks_end s no_slots t v es h = absurd h
marks_end s (slot_and spare_slot ss) t v es h = one_more s (last_slot t es) (marks_of (s + 1) ss (entry_and t v es)) (marks_end (s + 1) ss t v es h)
marks_end s (slot_and (subitem name k) ss) t v es h = slot_end s k ss t v es (t == s) refl (marks_end (s + 1) ss) h

last_within : (ms : List ℕ) → last_mark ms ≤ length ms
last_within [] = omega arith
last_within (zero ∷ ms) = pushed_within (last_mark ms) (length ms) (last_within ms)
  where
    pushed_within : (n l : ℕ) → n ≤ l → after_zero n ≤ suc l
    pushed_within zero l h = omega arith
    pushed_within (suc n) l h = omega arith
last_within (suc m ∷ ms) = let h = last_within ms in omega arith

last_is : (ss : SlotsTree) (es : EntriesTree) → EntriesShape 1 ss es → max 1 (last_mark (marks_of 1 ss es)) ≡ last_slot 1 es
last_is ss no_entries h = ap (max 1) (no_marks 1 ss)
last_is ss (entry_and t v es) h = let e = marks_end 1 ss t v es h in omega (arith, e.0, e.1)

presence_length : (ss : SlotsTree) (es : EntriesTree) → 0 < slot_count ss → EntriesShape 1 ss es
    → length (least_presence (octets_needed (slot_count ss)) (marks_of 1 ss es)) ≡ 8 * presence_octets (last_slot 1 es)
presence_length ss es some h =
    let n = octets_needed (slot_count ss) in
    let room = enough (slot_count ss) some in
    let le : last_mark (marks_of 1 ss es) ≤ 7 * n = omega (arith, last_within (marks_of 1 ss es), marks_length 1 ss es, room.1) in
    least_length n (marks_of 1 ss es) room.0 le ∙ ap (λ t. 8 * presence_octets t) (last_is ss es h)

-- ---- kinds

run_whole : (w : ℕ) → w % 8 ≡ 0 → w ≤ 524256 → w ≡ 8 * run_octets w
run_whole w e le = omega arith

unit_whole : (fx w : ℕ) → fx ≤ 1 → (w + fx) % 8 ≡ 0 → w ≤ 524256 → w + fx ≡ 8 * unit_octets fx w
unit_whole fx w few e le = omega arith

fixed_canon_length : (f : FixedTree) (v : ValueTree) → FixedShape f v → length (fixed_canon f v) ≡ width f
fixed_canon_length f v h = fixed_length f v (fixed_canon f v) (fixed_spells f v h)

members_canon_length : (ms : MembersTree) (vs : ValuesTree) → MembersShape ms vs → length (members_canon ms vs) ≡ members_width ms
members_canon_length ms vs h = members_length ms vs (members_canon ms vs) (members_spell ms vs h)

parts_length : (last : LastPart) (ps : List MembersTree) (ls : ListsTree) → PartsInBounds last ps → PartsShape ps ls → length (parts_canon last ps ls) ≡ 8 * parts_octets last ps ls
parts_length last [] no_lists w h = absurd h
parts_length last (p ∷ ps) no_lists w h = absurd h
parts_length last [] (list_and vs ls) w h = absurd h
parts_length last (p ∷ ps) (list_and vs no_lists) w h =
    let fx = fx_width last (length ps) in
    omega (arith, length-append (members_canon p vs) (word fx 0), length-word fx 0, members_canon_length p vs h, unit_whole fx (members_width p) (fx_few last (length ps)) w.0.0 w.0.1, no_parts ps)
  where
    no_parts : (ps : List MembersTree) → parts_octets last ps no_lists ≡ 0
    no_parts [] = refl
    no_parts (q ∷ qs) = refl
parts_length last (p ∷ []) (list_and vs (list_and ws ls)) w h = absurd h.1
parts_length last (p ∷ q ∷ ps) (list_and vs (list_and ws ls)) w h =
    omega (arith, length-append (members_canon p vs) (1 ∷ parts_canon last (q ∷ ps) (list_and ws ls)), members_canon_length p vs h.0, unit_whole 1 (members_width p) (omega arith) w.0.0 w.0.1, parts_length last (q ∷ ps) (list_and ws ls) w.1 h.1)

counted_more : (n u : ℕ) → suc n * u ≡ u + n * u
counted_more n u = grind arith

run_length : (f : FixedTree) (v : ValueTree) (vs : ValuesTree) → (width f + 1) % 8 ≡ 0 → width f ≤ 524256 → EachShape (FixedShape f) (value_and v vs)
    → length (run_canon f (value_and v vs)) ≡ 8 * (value_count (value_and v vs) * unit_octets 1 (width f))
run_length f v no_values e le h =
    omega (arith, length-append (fixed_canon f v) (0 ∷ []), fixed_canon_length f v h.0, unit_whole 1 (width f) (omega arith) e le, counted_more 0 (unit_octets 1 (width f)))
run_length f v (value_and w vs) e le h =
    omega (arith, length-append (fixed_canon f v) (1 ∷ run_canon f (value_and w vs)), fixed_canon_length f v h.0, unit_whole 1 (width f) (omega arith) e le, run_length f w vs e le h.1, counted_more (value_count (value_and w vs)) (unit_octets 1 (width f)))

each_length : (k : KindTree) → ((v : ValueTree) → Shape k v → length (canon k v) ≡ 8 * octets v k) → (vs : ValuesTree) → EachShape (Shape k) vs → length (each_canon (canon k) vs) ≡ 8 * each_octets vs k
each_length k one no_values h = refl
each_length k one (value_and v vs) h = omega (arith, length-append (canon k v) (each_canon (canon k) vs), one v h.0, each_length k one vs h.1)

-- the kinds of slots by number are those of the slots from s on
abbrev pub AreKinds : (ℕ → Option KindTree) → ℕ → SlotsTree → Type 0
AreKinds kinds s ss = (i n : ℕ) → n ≡ s + i → kinds n ≡ kind_after i ss

later_kinds : (kinds : ℕ → Option KindTree) (s : ℕ) (slot : SlotTree) (ss : SlotsTree) → AreKinds kinds s (slot_and slot ss) → AreKinds kinds (s + 1) ss
later_kinds kinds s slot ss h = λ i n e. h (suc i) n (omega arith)

pub own_kinds : (ss : SlotsTree) → AreKinds (slot_kind ss) 1 ss
own_kinds ss i zero e = absurd (omega arith)
own_kinds ss i (suc n) e = let same : n ≡ i = omega arith in ap (λ j. kind_after j ss) same

entry_length : (s : ℕ) (k : KindTree) (ss : SlotsTree) (t : ℕ) (v : ValueTree) (es : EntriesTree) (kinds : ℕ → Option KindTree) (b : Bool) → (t == s) ≡ b → (t ≡ s → kinds t ≡ Some k)
    → (Shape k v → length (canon k v) ≡ 8 * octets v k) → (EntriesShape (s + 1) ss es → length (entries_canon (s + 1) ss es) ≡ 8 * entries_octets es kinds)
    → (EntriesShape (s + 1) ss (entry_and t v es) → length (entries_canon (s + 1) ss (entry_and t v es)) ≡ 8 * entries_octets (entry_and t v es) kinds)
    → MatchBool b (Shape k v × EntriesShape (s + 1) ss es) (EntriesShape (s + 1) ss (entry_and t v es))
    → length (cond b (canon k v ++ entries_canon (s + 1) ss es) (entries_canon (s + 1) ss (entry_and t v es))) ≡ 8 * entries_octets (entry_and t v es) kinds
entry_length s k ss t v es kinds true e is one rest all h =
    let own : octets_where (kinds t) (octets v) ≡ octets v k = ap (λ o. octets_where o (octets v)) (is (eqb-true t s e)) in
    omega (arith, own, length-append (canon k v) (entries_canon (s + 1) ss es), one h.0, rest h.1)
entry_length s k ss t v es kinds false e is one rest all h = all h

mutual
  pub kind_length : (k : KindTree) (v : ValueTree) → InBounds k → Shape k v → length (canon k v) ≡ 8 * octets v k
  kind_length (fixed f) v w h = fixed_canon_length f v h ∙ run_whole (width f) w.0 w.1
  kind_length (extended last ps) (part_values ls) w h = parts_length last ps ls w.1 h
  kind_length (extended last ps) _ w h = absurd h
  kind_length (counted size k) (occurrences vs) w h =
      let t = each_length k (λ v u. kind_length k v w u) vs h.1 in
      let n = counter_width size in
      omega (arith, t, counter_in_octets size, length-word n (value_count vs), length-append (word n (value_count vs)) (each_canon (canon k) vs))
  kind_length (counted size k) _ w h = absurd h
  kind_length (by_fx f) (occurrences (value_and v vs)) w h = run_length f v vs w.0 w.1 h.1
  kind_length (by_fx f) (occurrences no_values) w h = absurd (omega (arith, h.0))
  kind_length (by_fx f) _ w h = absurd h
  kind_length explicit (content_octets xs) w h = omega (arith, length-append (word 8 (1 + length xs)) (bits xs), length-bits xs)
  kind_length explicit _ w h = absurd h
  kind_length (compound ss) (marked es) w h =
      let f = least_presence (octets_needed (slot_count ss)) (marks_of 1 ss es) in
      let t = entries_length 1 ss es (slot_kind ss) (own_kinds ss) w.2 h in
      omega (arith, length-append f (entries_canon 1 ss es), presence_length ss es w.0 h, t)
  kind_length (compound ss) _ w h = absurd h

  pub entries_length : (s : ℕ) (ss : SlotsTree) (es : EntriesTree) (kinds : ℕ → Option KindTree) → AreKinds kinds s ss → SlotsInBounds ss → EntriesShape s ss es
      → length (entries_canon s ss es) ≡ 8 * entries_octets es kinds
  entries_length s no_slots no_entries kinds are w h = refl
  entries_length s no_slots (entry_and t v es) kinds are w h = absurd h
  entries_length s (slot_and spare_slot ss) es kinds are w h = entries_length (s + 1) ss es kinds (later_kinds kinds s spare_slot ss are) w h
  entries_length s (slot_and (subitem name k) ss) no_entries kinds are w h = entries_length (s + 1) ss no_entries kinds (later_kinds kinds s (subitem name k) ss are) w.1 h
  entries_length s (slot_and (subitem name k) ss) (entry_and t v es) kinds are w h =
      let later = later_kinds kinds s (subitem name k) ss are in
      entry_length s k ss t v es kinds (t == s) refl (λ e. are 0 t (omega arith)) (λ u. kind_length k v w.0 u) (λ u. entries_length (s + 1) ss es kinds later w.1 u)
      (λ u. entries_length (s + 1) ss (entry_and t v es) kinds later w.1 u) h
