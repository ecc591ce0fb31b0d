-- The test of a value's shape says what the definition does.
use Rattle.std.proofs.Common.{◌≡◌, ℕ, ◌+◌, ◌^◌, ◌<◌, ◌≤◌, ◌==◌, List, [], ◌∷◌, length, Bool, true, false, ◌&&◌, if◌then◌else◌, nat_lt, nat_le, MatchBool, refl, arith}
use Rattle.std.specs.List.{AllByRecursion, list_all}
use Rattle.std.proofs.lemmas.Bool.Decides.{nat_tests}
use Rattle.ax_format.specs.Fitting.{number_fits, fixed_fits, members_fit, list_count, lists_fit, parts_fit, each_fits, kind_fits, entries_fit}
use Rattle.ax_format.specs.Shape.{NumberShape, FixedShape, MembersShape, PartsShape, EachShape, Shape, EntriesShape}
use Rattle.ax_format.specs.Tree.{FixedTree, element, group, MembersTree, no_members, member_and, named, spare, KindTree, fixed, extended, counted, by_fx, explicit, compound, SlotsTree, no_slots, slot_and, spare_slot, subitem, ValueTree, number, member_values, part_values, occurrences, content_octets, marked, ValuesTree, no_values, value_and, value_count, ListsTree, no_lists, list_and, EntriesTree, no_entries, entry_and}
use Rattle.ax_format.specs.Widths.{counter_width}

pub both : (a b : Bool) → a && b ≡ true → (a ≡ true) × (b ≡ true)
both true b e = (refl, e)
both false b e = absurd (cc)

pub join : (a b : Bool) → a ≡ true → b ≡ true → a && b ≡ true
join a b p q = λ i. p i && q i

below : (m n : ℕ) → nat_lt m n ≡ true → m < n
below m n e = grind (arith, nat_tests)

tested_below : (m n : ℕ) → m < n → nat_lt m n ≡ true
tested_below m n h = grind (arith, nat_tests)

within : (m n : ℕ) → nat_le m n ≡ true → m ≤ n
within m n e = grind (arith, nat_tests)

tested_within : (m n : ℕ) → m ≤ n → nat_le m n ≡ true
tested_within m n h = grind (arith, nat_tests)

-- ---- fixed kinds

number_to : (w : ℕ) (v : ValueTree) → number_fits w v ≡ true → NumberShape w v
number_to w (number n) e = below n (2 ^ w) e
number_to w _ e = absurd (cc)

number_from : (w : ℕ) (v : ValueTree) → NumberShape w v → number_fits w v ≡ true
number_from w (number n) h = tested_below n (2 ^ w) h
number_from w _ h = absurd h

mutual
  fixed_to : (f : FixedTree) (v : ValueTree) → fixed_fits f v ≡ true → FixedShape f v
  fixed_to (element w c) v e = number_to w v e
  fixed_to (group ms) (member_values vs) e = members_to ms vs e
  fixed_to (group ms) _ e = absurd (cc)

  members_to : (ms : MembersTree) (vs : ValuesTree) → members_fit ms vs ≡ true → MembersShape ms vs
  members_to no_members no_values e = tt
  members_to no_members (value_and v vs) e = absurd (cc)
  members_to (member_and m ms) no_values e = absurd (cc)
  members_to (member_and (named name f) ms) (value_and v vs) e = let s = both (fixed_fits f v) (members_fit ms vs) e in (fixed_to f v s.0, members_to ms vs s.1)
  members_to (member_and (spare w) ms) (value_and v vs) e = let s = both (number_fits w v) (members_fit ms vs) e in (number_to w v s.0, members_to ms vs s.1)

mutual
  fixed_from : (f : FixedTree) (v : ValueTree) → FixedShape f v → fixed_fits f v ≡ true
  fixed_from (element w c) v h = number_from w v h
  fixed_from (group ms) (member_values vs) h = members_from ms vs h
  fixed_from (group ms) _ h = absurd h

  members_from : (ms : MembersTree) (vs : ValuesTree) → MembersShape ms vs → members_fit ms vs ≡ true
  members_from no_members no_values h = refl
  members_from no_members (value_and v vs) h = absurd h
  members_from (member_and m ms) no_values h = absurd h
  members_from (member_and (named name f) ms) (value_and v vs) h = join (fixed_fits f v) (members_fit ms vs) (fixed_from f v h.0) (members_from ms vs h.1)
  members_from (member_and (spare w) ms) (value_and v vs) h = join (number_fits w v) (members_fit ms vs) (number_from w v h.0) (members_from ms vs h.1)

-- ---- extended

lists_to : (ps : List MembersTree) (vs : ValuesTree) (ls : ListsTree) → list_count (list_and vs ls) ≤ length ps → lists_fit ps (list_and vs ls) ≡ true → PartsShape ps (list_and vs ls)
lists_to [] vs ls h e = absurd (omega arith)
lists_to (p ∷ ps) vs no_lists h e = members_to p vs (both (members_fit p vs) (lists_fit ps no_lists) e).0
lists_to (p ∷ ps) vs (list_and ws ls) h e =
    let s = both (members_fit p vs) (lists_fit ps (list_and ws ls)) e in
    let h' : list_count (list_and ws ls) ≤ length ps = omega arith in
    (members_to p vs s.0, lists_to ps ws ls h' s.1)

parts_to : (ps : List MembersTree) (ls : ListsTree) → parts_fit ps ls ≡ true → PartsShape ps ls
parts_to ps no_lists e = absurd (cc)
parts_to ps (list_and vs ls) e =
    let s = both (nat_lt 0 (list_count (list_and vs ls))) (nat_le (list_count (list_and vs ls)) (length ps) && lists_fit ps (list_and vs ls)) e in
    let t = both (nat_le (list_count (list_and vs ls)) (length ps)) (lists_fit ps (list_and vs ls)) s.1 in
    lists_to ps vs ls (within (list_count (list_and vs ls)) (length ps) t.0) t.1

no_list_fits : (ps : List MembersTree) → lists_fit ps no_lists ≡ true
no_list_fits [] = refl
no_list_fits (p ∷ ps) = refl

lists_from : (ps : List MembersTree) (ls : ListsTree) → PartsShape ps ls → (0 < list_count ls) × ((list_count ls ≤ length ps) × (lists_fit ps ls ≡ true))
lists_from ps no_lists h = absurd h
lists_from [] (list_and vs ls) h = absurd h
lists_from (p ∷ ps) (list_and vs no_lists) h = (omega arith, (omega arith, join (members_fit p vs) (lists_fit ps no_lists) (members_from p vs h) (no_list_fits ps)))
lists_from (p ∷ ps) (list_and vs (list_and ws ls)) h =
    let rest : (0 < list_count (list_and ws ls)) × ((list_count (list_and ws ls) ≤ length ps) × (lists_fit ps (list_and ws ls) ≡ true)) = lists_from ps (list_and ws ls) h.1 in
    let most : list_count (list_and ws ls) ≤ length ps = rest.1.0 in
    (omega arith, (omega arith, join (members_fit p vs) (lists_fit ps (list_and ws ls)) (members_from p vs h.0) rest.1.1))

parts_from : (ps : List MembersTree) (ls : ListsTree) → PartsShape ps ls → parts_fit ps ls ≡ true
parts_from ps ls h =
    let s : (0 < list_count ls) × ((list_count ls ≤ length ps) × (lists_fit ps ls ≡ true)) = lists_from ps ls h in
    join (nat_lt 0 (list_count ls)) (nat_le (list_count ls) (length ps) && lists_fit ps ls) (tested_below 0 (list_count ls) s.0)
    (join (nat_le (list_count ls) (length ps)) (lists_fit ps ls) (tested_within (list_count ls) (length ps) s.1.0) s.1.1)

-- ---- each value by one rule

each_to : (R : ValueTree → Type 0) (rule : ValueTree → Bool) → ((v : ValueTree) → rule v ≡ true → R v) → (vs : ValuesTree) → each_fits rule vs ≡ true → EachShape R vs
each_to R rule one no_values e = tt
each_to R rule one (value_and v vs) e = let s = both (rule v) (each_fits rule vs) e in (one v s.0, each_to R rule one vs s.1)

each_from : (R : ValueTree → Type 0) (rule : ValueTree → Bool) → ((v : ValueTree) → R v → rule v ≡ true) → (vs : ValuesTree) → EachShape R vs → each_fits rule vs ≡ true
each_from R rule one no_values h = refl
each_from R rule one (value_and v vs) h = join (rule v) (each_fits rule vs) (one v h.0) (each_from R rule one vs h.1)

octets_to : (xs : List ℕ) → list_all (λ x. nat_lt x 256) xs ≡ true → AllByRecursion (λ x. x < 256) xs
octets_to [] e = tt
octets_to (x ∷ xs) e = let s = both (nat_lt x 256) (list_all (λ y. nat_lt y 256) xs) e in (below x 256 s.0, octets_to xs s.1)

octets_from : (xs : List ℕ) → AllByRecursion (λ x. x < 256) xs → list_all (λ x. nat_lt x 256) xs ≡ true
octets_from [] h = refl
octets_from (x ∷ xs) h = join (nat_lt x 256) (list_all (λ y. nat_lt y 256) xs) (tested_below x 256 h.0) (octets_from xs h.1)

-- ---- kinds

chosen_to : (b : Bool) (p q r : Bool) (P Q R : Type 0) → (p ≡ true → P) → (q ≡ true → Q) → (r ≡ true → R) → (if b then p && q else r) ≡ true → MatchBool b (P × Q) R
chosen_to true p q r P Q R f g h e = let s = both p q e in (f s.0, g s.1)
chosen_to false p q r P Q R f g h e = h e

chosen_from : (b : Bool) (p q r : Bool) (P Q R : Type 0) → (P → p ≡ true) → (Q → q ≡ true) → (R → r ≡ true) → MatchBool b (P × Q) R → (if b then p && q else r) ≡ true
chosen_from true p q r P Q R f g h m = join p q (f m.0) (g m.1)
chosen_from false p q r P Q R f g h m = h m

mutual
  pub fits_shape : (k : KindTree) (v : ValueTree) → kind_fits k v ≡ true → Shape k v
  fits_shape (fixed f) v e = fixed_to f v e
  fits_shape (extended last ps) (part_values ls) e = parts_to ps ls e
  fits_shape (extended last ps) _ e = absurd (cc)
  fits_shape (counted size k) (occurrences vs) e =
      let s = both (nat_lt (value_count vs) (2 ^ counter_width size)) (each_fits (kind_fits k) vs) e in (below (value_count vs) (2 ^ counter_width size) s.0, each_to (Shape k) (kind_fits k) (fits_shape k) vs s.1)
  fits_shape (counted size k) _ e = absurd (cc)
  fits_shape (by_fx f) (occurrences vs) e =
      let s = both (nat_lt 0 (value_count vs)) (each_fits (fixed_fits f) vs) e in (below 0 (value_count vs) s.0, each_to (FixedShape f) (fixed_fits f) (fixed_to f) vs s.1)
  fits_shape (by_fx f) _ e = absurd (cc)
  fits_shape explicit (content_octets xs) e =
      let s = both (nat_lt (length xs) 255) (list_all (λ x. nat_lt x 256) xs) e in (below (length xs) 255 s.0, octets_to xs s.1)
  fits_shape explicit _ e = absurd (cc)
  fits_shape (compound ss) (marked es) e = entries_to 1 ss es e
  fits_shape (compound ss) _ e = absurd (cc)

  pub entries_to : (s : ℕ) (ss : SlotsTree) (es : EntriesTree) → entries_fit s ss es ≡ true → EntriesShape s ss es
  entries_to s no_slots no_entries e = tt
  entries_to s no_slots (entry_and t v es) e = absurd (cc)
  entries_to s (slot_and spare_slot ss) es e = entries_to (s + 1) ss es e
  entries_to s (slot_and (subitem name k) ss) no_entries e = entries_to (s + 1) ss no_entries e
  entries_to s (slot_and (subitem name k) ss) (entry_and t v es) e =
      chosen_to (t == s) (kind_fits k v) (entries_fit (s + 1) ss es) (entries_fit (s + 1) ss (entry_and t v es)) (Shape k v) (EntriesShape (s + 1) ss es) (EntriesShape (s + 1) ss (entry_and t v es))
      (fits_shape k v) (entries_to (s + 1) ss es) (entries_to (s + 1) ss (entry_and t v es)) e

mutual
  pub shape_fits : (k : KindTree) (v : ValueTree) → Shape k v → kind_fits k v ≡ true
  shape_fits (fixed f) v h = fixed_from f v h
  shape_fits (extended last ps) (part_values ls) h = parts_from ps ls h
  shape_fits (extended last ps) _ h = absurd h
  shape_fits (counted size k) (occurrences vs) h =
      join (nat_lt (value_count vs) (2 ^ counter_width size)) (each_fits (kind_fits k) vs) (tested_below (value_count vs) (2 ^ counter_width size) h.0) (each_from (Shape k) (kind_fits k) (shape_fits k) vs h.1)
  shape_fits (counted size k) _ h = absurd h
  shape_fits (by_fx f) (occurrences vs) h =
      join (nat_lt 0 (value_count vs)) (each_fits (fixed_fits f) vs) (tested_below 0 (value_count vs) h.0) (each_from (FixedShape f) (fixed_fits f) (fixed_from f) vs h.1)
  shape_fits (by_fx f) _ h = absurd h
  shape_fits explicit (content_octets xs) h = join (nat_lt (length xs) 255) (list_all (λ x. nat_lt x 256) xs) (tested_below (length xs) 255 h.0) (octets_from xs h.1)
  shape_fits explicit _ h = absurd h
  shape_fits (compound ss) (marked es) h = entries_from 1 ss es h
  shape_fits (compound ss) _ h = absurd h

  pub entries_from : (s : ℕ) (ss : SlotsTree) (es : EntriesTree) → EntriesShape s ss es → entries_fit s ss es ≡ true
  entries_from s no_slots no_entries h = refl
  entries_from s no_slots (entry_and t v es) h = absurd h
  entries_from s (slot_and spare_slot ss) es h = entries_from (s + 1) ss es h
  entries_from s (slot_and (subitem name k) ss) no_entries h = entries_from (s + 1) ss no_entries h
  entries_from s (slot_and (subitem name k) ss) (entry_and t v es) h =
      chosen_from (t == s) (kind_fits k v) (entries_fit (s + 1) ss es) (entries_fit (s + 1) ss (entry_and t v es)) (Shape k v) (EntriesShape (s + 1) ss es) (EntriesShape (s + 1) ss (entry_and t v es))
      (shape_fits k v) (entries_from (s + 1) ss es) (entries_from (s + 1) ss (entry_and t v es)) h
