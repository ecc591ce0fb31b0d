-- The canonical spelling of a value of a kind's shape spells it, no spelling of the value is shorter, and what is spelled has the shape.
use Rattle.std.proofs.Common.{◌≡◌, ℕ, ◌+◌, ◌*◌, ◌<◌, ◌≤◌, ◌==◌, inl, inr, Bool, true, false, cond, List, [], ◌∷◌, ◌++◌, length, refl, sym, ◌∙◌, ap, arith, MatchBool, length-append}
use Rattle.std.proofs.lemmas.Bool.{eqb-true}
use Rattle.ax_bits.specs.Bits.{word}
use Rattle.ax_format.proofs.Least.{enough, marks_length, kept, least_is, marks_bits, entries_alike, kept_alike, least_least, marks_of_spelled, here, not_here, later_slot}
use Rattle.ax_format.specs.Canonical.{number_canon, fixed_canon, members_canon, parts_canon, run_canon, each_canon, canon, marks_of, entries_canon}
use Rattle.ax_format.specs.Presence.{octets_needed, least_presence, later_marks}
use Rattle.ax_format.specs.Shape.{NumberShape, FixedShape, MembersShape, PartsShape, EachShape, Shape, EntriesShape}
use Rattle.ax_format.specs.Sound.{Sound, SlotsSound}
use Rattle.ax_format.specs.Spelling.{NumberSpells, FixedSpells, MembersSpell, PartsSpell, RunSpells, EachSpells, Spells, EntriesSpell}
use Rattle.ax_format.specs.Tree.{ValueTree, number, FixedTree, element, group, member_values, MembersTree, ValuesTree, no_members, no_values, value_and, member_and, named, spare, ListsTree, no_lists, list_and, KindTree, SlotsTree, EntriesTree, entry_and, slot_and, subitem, slot_count, compound, marked, fixed, extended, part_values, counted, occurrences, by_fx, explicit, content_octets, no_slots, no_entries, spare_slot, value_count}
use Rattle.ax_format.specs.Widths.{counter_width, fx_width}
use Rattle.ax_format.specs.declared.kind.LastPart.{LastPart}

element_spells : (w : ℕ) (v : ValueTree) → NumberShape w v → NumberSpells w v (number_canon w v)
element_spells w (number n) h = (h, refl)
element_spells w _ h = absurd h

mutual
  pub fixed_spells : (f : FixedTree) (v : ValueTree) → FixedShape f v → FixedSpells f v (fixed_canon f v)
  fixed_spells (element w c) v h = element_spells w v h
  fixed_spells (group ms) (member_values vs) h = members_spell ms vs h
  fixed_spells (group ms) _ h = absurd h

  pub members_spell : (ms : MembersTree) (vs : ValuesTree) → MembersShape ms vs → MembersSpell ms vs (members_canon ms vs)
  members_spell no_members no_values h = refl
  members_spell no_members (value_and v vs) h = h
  members_spell (member_and (named name f) ms) no_values h = h
  members_spell (member_and (spare w) ms) no_values h = h
  members_spell (member_and (named name f) ms) (value_and v vs) h = (fixed_canon f v, members_canon ms vs, refl, fixed_spells f v h.0, members_spell ms vs h.1)
  members_spell (member_and (spare w) ms) (value_and v vs) h = (number_canon w v, members_canon ms vs, refl, element_spells w v h.0, members_spell ms vs h.1)

parts_spell : (last : LastPart) (ps : List MembersTree) (ls : ListsTree) → PartsShape ps ls → PartsSpell last ps ls (parts_canon last ps ls)
parts_spell last [] no_lists h = h
parts_spell last (p ∷ ps) no_lists h = h
parts_spell last [] (list_and vs ls) h = h
parts_spell last (p ∷ ps) (list_and vs no_lists) h = (members_canon p vs, refl, members_spell p vs h)
parts_spell last (p ∷ ps) (list_and vs (list_and ws ls)) h = (members_canon p vs, parts_canon last ps (list_and ws ls), refl, members_spell p vs h.0, parts_spell last ps (list_and ws ls) h.1)

run_spells : (f : FixedTree) (v : ValueTree) (vs : ValuesTree) → EachShape (FixedShape f) (value_and v vs) → RunSpells f (value_and v vs) (run_canon f (value_and v vs))
run_spells f v no_values h = (fixed_canon f v, refl, fixed_spells f v h.0)
run_spells f v (value_and w vs) h = (fixed_canon f v, run_canon f (value_and w vs), refl, fixed_spells f v h.0, run_spells f w vs h.1)

each_spells : (R : ValueTree → Type 0) (S : ValueTree → List ℕ → Type 0) (rule : ValueTree → List ℕ) → ((v : ValueTree) → R v → S v (rule v))
    → (vs : ValuesTree) → EachShape R vs → EachSpells S vs (each_canon rule vs)
each_spells R S rule one no_values h = refl
each_spells R S rule one (value_and v vs) h = (rule v, each_canon rule vs, refl, one v h.0, each_spells R S rule one vs h.1)

-- ---- kinds

module _ (s : ℕ) (name : List ℕ) (k : KindTree) (ss : SlotsTree) (t : ℕ) (v : ValueTree) (es : EntriesTree) where
  entry_spells : (b : Bool) → (t == s) ≡ b → (Shape k v → Spells k v (canon k v)) → (EntriesShape (s + 1) ss es → EntriesSpell (s + 1) ss (marks_of (s + 1) ss es) es (entries_canon (s + 1) ss es))
      → (EntriesShape (s + 1) ss (entry_and t v es) → EntriesSpell (s + 1) ss (marks_of (s + 1) ss (entry_and t v es)) (entry_and t v es) (entries_canon (s + 1) ss (entry_and t v es)))
      → MatchBool b (Shape k v × EntriesShape (s + 1) ss es) (EntriesShape (s + 1) ss (entry_and t v es))
      → EntriesSpell s (slot_and (subitem name k) ss) (cond b (1 ∷ marks_of (s + 1) ss es) (0 ∷ marks_of (s + 1) ss (entry_and t v es))) (entry_and t v es)
      (cond b (canon k v ++ entries_canon (s + 1) ss es) (entries_canon (s + 1) ss (entry_and t v es)))
  entry_spells true e f g h p = inl (refl, eqb-true t s e, canon k v, entries_canon (s + 1) ss es, refl, f p.0, g p.1)
  entry_spells false e f g h p = inr (refl, h p)

compound_spells : (ss : SlotsTree) (es : EntriesTree) → 0 < slot_count ss → EntriesSpell 1 ss (marks_of 1 ss es) es (entries_canon 1 ss es) → Spells (compound ss) (marked es) (canon (compound ss) (marked es))
compound_spells ss es some h =
    let n = octets_needed (slot_count ss) in
    let room = enough (slot_count ss) some in
    let le : length (marks_of 1 ss es) ≤ 7 * n = omega (arith, marks_length 1 ss es) in (
      least_presence n (marks_of 1 ss es),
      entries_canon 1 ss es,
      kept n (marks_of 1 ss es),
      refl,
      least_is n (marks_of 1 ss es) (marks_bits 1 ss es) room.0 le,
      entries_alike 1 ss (kept n (marks_of 1 ss es)) (marks_of 1 ss es) es (entries_canon 1 ss es) (kept_alike n (marks_of 1 ss es) le) h,
    )

mutual
  pub canon_spells : (k : KindTree) (v : ValueTree) → Sound k → Shape k v → Spells k v (canon k v)
  canon_spells (fixed f) v sound h = fixed_spells f v h
  canon_spells (extended last ps) (part_values ls) sound h = parts_spell last ps ls h
  canon_spells (extended last ps) _ sound h = absurd h
  canon_spells (counted size k) (occurrences vs) sound h = (h.0, each_canon (canon k) vs, refl, each_spells (Shape k) (Spells k) (canon k) (λ v t. canon_spells k v sound t) vs h.1)
  canon_spells (counted size k) _ sound h = absurd h
  canon_spells (by_fx f) (occurrences (value_and v vs)) sound h = run_spells f v vs h.1
  canon_spells (by_fx f) (occurrences no_values) sound h = absurd (omega (arith, h.0))
  canon_spells (by_fx f) _ sound h = absurd h
  canon_spells explicit (content_octets xs) sound h = (h.0, h.1, refl)
  canon_spells explicit _ sound h = absurd h
  canon_spells (compound ss) (marked es) sound h = compound_spells ss es sound.0 (entries_spell 1 ss es sound.1 h)
  canon_spells (compound ss) _ sound h = absurd h

  entries_spell : (s : ℕ) (ss : SlotsTree) (es : EntriesTree) → SlotsSound ss → EntriesShape s ss es → EntriesSpell s ss (marks_of s ss es) es (entries_canon s ss es)
  entries_spell s no_slots no_entries sound h = (refl, refl)
  entries_spell s no_slots (entry_and t v es) sound h = h
  entries_spell s (slot_and spare_slot ss) es sound h = (refl, entries_spell (s + 1) ss es sound h)
  entries_spell s (slot_and (subitem name k) ss) no_entries sound h = (refl, entries_spell (s + 1) ss no_entries sound.1 h)
  entries_spell s (slot_and (subitem name k) ss) (entry_and t v es) sound h =
      entry_spells s name k ss t v es (t == s) refl (canon_spells k v sound.0) (entries_spell (s + 1) ss es sound.1) (entries_spell (s + 1) ss (entry_and t v es) sound.1) h

-- ---- no spelling is shorter

element_is : (w : ℕ) (v : ValueTree) (b : List ℕ) → NumberSpells w v b → number_canon w v ≡ b
element_is w (number n) b h = sym h.1
element_is w _ b h = absurd h

mutual
  fixed_is : (f : FixedTree) (v : ValueTree) (b : List ℕ) → FixedSpells f v b → fixed_canon f v ≡ b
  fixed_is (element w c) v b h = element_is w v b h
  fixed_is (group ms) (member_values vs) b h = members_is ms vs b h
  fixed_is (group ms) _ b h = absurd h

  members_is : (ms : MembersTree) (vs : ValuesTree) (b : List ℕ) → MembersSpell ms vs b → members_canon ms vs ≡ b
  members_is no_members no_values b h = sym h
  members_is no_members (value_and v vs) b h = absurd h
  members_is (member_and (named name f) ms) no_values b h = absurd h
  members_is (member_and (spare w) ms) no_values b h = absurd h
  members_is (member_and (named name f) ms) (value_and v vs) b (x, y, e, p, q) = (λ i. fixed_is f v x p i ++ members_is ms vs y q i) ∙ sym e
  members_is (member_and (spare w) ms) (value_and v vs) b (x, y, e, p, q) = (λ i. element_is w v x p i ++ members_is ms vs y q i) ∙ sym e

parts_is : (last : LastPart) (ps : List MembersTree) (ls : ListsTree) (b : List ℕ) → PartsSpell last ps ls b → parts_canon last ps ls ≡ b
parts_is last [] no_lists b h = absurd h
parts_is last (p ∷ ps) no_lists b h = absurd h
parts_is last [] (list_and vs ls) b h = absurd h
parts_is last (p ∷ ps) (list_and vs no_lists) b (x, e, h) = ap (λ x. x ++ word (fx_width last (length ps)) 0) (members_is p vs x h) ∙ sym e
parts_is last (p ∷ ps) (list_and vs (list_and ws ls)) b (x, y, e, h, t) = (λ i. members_is p vs x h i ++ 1 ∷ parts_is last ps (list_and ws ls) y t i) ∙ sym e

run_is : (f : FixedTree) (vs : ValuesTree) (b : List ℕ) → RunSpells f vs b → run_canon f vs ≡ b
run_is f no_values b h = absurd h
run_is f (value_and v no_values) b (x, e, h) = ap (λ x. x ++ 0 ∷ []) (fixed_is f v x h) ∙ sym e
run_is f (value_and v (value_and w vs)) b (x, y, e, h, t) = (λ i. fixed_is f v x h i ++ 1 ∷ run_is f (value_and w vs) y t i) ∙ sym e

each_shortest : (S : ValueTree → List ℕ → Type 0) (rule : ValueTree → List ℕ) → ((v : ValueTree) (b : List ℕ) → S v b → length (rule v) ≤ length b)
    → (vs : ValuesTree) (b : List ℕ) → EachSpells S vs b → length (each_canon rule vs) ≤ length b
each_shortest S rule one no_values b h = omega arith
each_shortest S rule one (value_and v vs) b (x, y, e, h, t) =
    let le : length (rule v) ≤ length x = one v x h in
    let more : length (each_canon rule vs) ≤ length y = each_shortest S rule one vs y t in
    omega (arith, ap length e, length-append x y, length-append (rule v) (each_canon rule vs))

-- two spellings in a row
two_shortest : (a c b x y : List ℕ) → b ≡ x ++ y → length a ≤ length x → length c ≤ length y → length (a ++ c) ≤ length b
two_shortest a c b x y e p q = omega (arith, ap length e, length-append x y, length-append a c)

mutual
  pub canon_shortest : (k : KindTree) (v : ValueTree) (b : List ℕ) → Spells k v b → length (canon k v) ≤ length b
  canon_shortest (fixed f) v b h = omega (arith, ap length (fixed_is f v b h))
  canon_shortest (extended last ps) (part_values ls) b h = omega (arith, ap length (parts_is last ps ls b h))
  canon_shortest (extended last ps) _ b h = absurd h
  canon_shortest (counted size k) (occurrences vs) b (le, y, e, h) =
      two_shortest (word (counter_width size) (value_count vs)) (each_canon (canon k) vs) b (word (counter_width size) (value_count vs)) y e (omega arith) (each_shortest (Spells k) (canon k) (canon_shortest k) vs y h)
  canon_shortest (counted size k) _ b h = absurd h
  canon_shortest (by_fx f) (occurrences vs) b h = omega (arith, ap length (run_is f vs b h))
  canon_shortest (by_fx f) _ b h = absurd h
  canon_shortest explicit (content_octets xs) b (le, all, e) = omega (arith, ap length e)
  canon_shortest explicit _ b h = absurd h
  canon_shortest (compound ss) (marked es) b (f, y, ms, e, p, h) =
      two_shortest (least_presence (octets_needed (slot_count ss)) (marks_of 1 ss es)) (entries_canon 1 ss es) b f y e (least_least (octets_needed (slot_count ss)) (marks_of 1 ss es) ms f (marks_of_spelled 1 ss ms es y h) p) (entries_shortest 1 ss ms es y h)
  canon_shortest (compound ss) _ b h = absurd h

  entries_shortest : (s : ℕ) (ss : SlotsTree) (ms : List ℕ) (es : EntriesTree) (b : List ℕ) → EntriesSpell s ss ms es b → length (entries_canon s ss es) ≤ length b
  entries_shortest s no_slots ms no_entries b h = omega arith
  entries_shortest s no_slots ms (entry_and t v es) b h = absurd h
  entries_shortest s (slot_and spare_slot ss) ms es b h = entries_shortest (s + 1) ss (later_marks ms) es b h.1
  entries_shortest s (slot_and (subitem name k) ss) ms no_entries b h = entries_shortest (s + 1) ss (later_marks ms) no_entries b h.1
  entries_shortest s (slot_and (subitem name k) ss) ms (entry_and t v es) b (inl (m, e, x, y, f, p, q)) =
      rw (here t s e) (two_shortest (canon k v) (entries_canon (s + 1) ss es) b x y f (canon_shortest k v x p) (entries_shortest (s + 1) ss (later_marks ms) es y q))
  entries_shortest s (slot_and (subitem name k) ss) ms (entry_and t v es) b (inr (m, q)) =
      rw (not_here t s (later_slot (s + 1) ss (later_marks ms) t v es b q)) (entries_shortest (s + 1) ss (later_marks ms) (entry_and t v es) b q)

-- ---- what is spelled has the shape

element_shape : (w : ℕ) (v : ValueTree) (b : List ℕ) → NumberSpells w v b → NumberShape w v
element_shape w (number n) b h = h.0
element_shape w _ b h = absurd h

mutual
  fixed_shape : (f : FixedTree) (v : ValueTree) (b : List ℕ) → FixedSpells f v b → FixedShape f v
  fixed_shape (element w c) v b h = element_shape w v b h
  fixed_shape (group ms) (member_values vs) b h = members_shape ms vs b h
  fixed_shape (group ms) _ b h = absurd h

  members_shape : (ms : MembersTree) (vs : ValuesTree) (b : List ℕ) → MembersSpell ms vs b → MembersShape ms vs
  members_shape no_members no_values b h = tt
  members_shape no_members (value_and v vs) b h = absurd h
  members_shape (member_and (named name f) ms) no_values b h = absurd h
  members_shape (member_and (spare w) ms) no_values b h = absurd h
  members_shape (member_and (named name f) ms) (value_and v vs) b (x, y, e, p, q) = (fixed_shape f v x p, members_shape ms vs y q)
  members_shape (member_and (spare w) ms) (value_and v vs) b (x, y, e, p, q) = (element_shape w v x p, members_shape ms vs y q)

parts_shape : (last : LastPart) (ps : List MembersTree) (ls : ListsTree) (b : List ℕ) → PartsSpell last ps ls b → PartsShape ps ls
parts_shape last [] no_lists b h = absurd h
parts_shape last (p ∷ ps) no_lists b h = absurd h
parts_shape last [] (list_and vs ls) b h = absurd h
parts_shape last (p ∷ ps) (list_and vs no_lists) b (x, e, h) = members_shape p vs x h
parts_shape last (p ∷ ps) (list_and vs (list_and ws ls)) b (x, y, e, h, t) = (members_shape p vs x h, parts_shape last ps (list_and ws ls) y t)

run_shape : (f : FixedTree) (v : ValueTree) (vs : ValuesTree) (b : List ℕ) → RunSpells f (value_and v vs) b → EachShape (FixedShape f) (value_and v vs)
run_shape f v no_values b (x, e, h) = (fixed_shape f v x h, tt)
run_shape f v (value_and w vs) b (x, y, e, h, t) = (fixed_shape f v x h, run_shape f w vs y t)

each_shape : (S : ValueTree → List ℕ → Type 0) (R : ValueTree → Type 0) → ((v : ValueTree) (b : List ℕ) → S v b → R v) → (vs : ValuesTree) (b : List ℕ) → EachSpells S vs b → EachShape R vs
each_shape S R one no_values b h = tt
each_shape S R one (value_and v vs) b (x, y, e, h, t) = (one v x h, each_shape S R one vs y t)

mutual
  pub spells_shape : (k : KindTree) (v : ValueTree) (b : List ℕ) → Spells k v b → Shape k v
  spells_shape (fixed f) v b h = fixed_shape f v b h
  spells_shape (extended last ps) (part_values ls) b h = parts_shape last ps ls b h
  spells_shape (extended last ps) _ b h = absurd h
  spells_shape (counted size k) (occurrences vs) b (le, y, e, h) = (le, each_shape (Spells k) (Shape k) (spells_shape k) vs y h)
  spells_shape (counted size k) _ b h = absurd h
  spells_shape (by_fx f) (occurrences no_values) b h = absurd h
  spells_shape (by_fx f) (occurrences (value_and v vs)) b h = (omega arith, run_shape f v vs b h)
  spells_shape (by_fx f) _ b h = absurd h
  spells_shape explicit (content_octets xs) b (le, all, e) = (le, all)
  spells_shape explicit _ b h = absurd h
  spells_shape (compound ss) (marked es) b (f, y, ms, e, p, h) = entries_shape 1 ss ms es y h
  spells_shape (compound ss) _ b h = absurd h

  entries_shape : (s : ℕ) (ss : SlotsTree) (ms : List ℕ) (es : EntriesTree) (b : List ℕ) → EntriesSpell s ss ms es b → EntriesShape s ss es
  entries_shape s no_slots ms no_entries b h = tt
  entries_shape s no_slots ms (entry_and t v es) b h = absurd h
  entries_shape s (slot_and spare_slot ss) ms es b h = entries_shape (s + 1) ss (later_marks ms) es b h.1
  entries_shape s (slot_and (subitem name k) ss) ms no_entries b h = entries_shape (s + 1) ss (later_marks ms) no_entries b h.1
  entries_shape s (slot_and (subitem name k) ss) ms (entry_and t v es) b (inl (m, e, x, y, f, p, q)) = rw (here t s e) (spells_shape k v x p, entries_shape (s + 1) ss (later_marks ms) es y q)
  entries_shape s (slot_and (subitem name k) ss) ms (entry_and t v es) b (inr (m, q)) =
      rw (not_here t s (later_slot (s + 1) ss (later_marks ms) t v es b q)) (entries_shape (s + 1) ss (later_marks ms) (entry_and t v es) b q)
