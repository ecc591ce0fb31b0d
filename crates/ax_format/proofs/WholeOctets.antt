-- Spellings of whole kinds are whole octets, and a fault stands within the bits or at their end.
use Rattle.std.proofs.Common.{◌≡◌, ℕ, zero, suc, ◌+◌, ◌*◌, ◌%◌, ◌<◌, ◌≤◌, inl, inr, List, [], ◌∷◌, ◌++◌, length, Bool, refl, ◌∙◌, ap, arith, length-append}
use Rattle.ax_bits.proofs.Words.{length-bits, length-word}
use Rattle.ax_bits.specs.Bits.{word, bits}
use Rattle.ax_format.proofs.FixedKinds.{members_length, fixed_length}
use Rattle.ax_format.specs.Failing.{PartsFail, RunFails, PresenceFails, Fails, EntriesFail}
use Rattle.ax_format.specs.Presence.{Presence, octets_needed, later_marks, FirstUndefined, later_slots, slots_past}
use Rattle.ax_format.specs.Spelling.{PartsSpell, RunSpells, EachSpells, Spells, EntriesSpell}
use Rattle.ax_format.specs.Tree.{MembersTree, ListsTree, no_lists, list_and, FixedTree, ValuesTree, no_values, value_and, ValueTree, KindTree, fixed, extended, part_values, counted, occurrences, value_count, by_fx, explicit, content_octets, compound, marked, slot_count, SlotsTree, EntriesTree, no_slots, no_entries, entry_and, slot_and, spare_slot, subitem, defined_slots}
use Rattle.ax_format.specs.Whole.{PartsWhole, Whole, SlotsWhole}
use Rattle.ax_format.specs.Widths.{members_width, width, counter_width, counter_octets, fx_width}
use Rattle.ax_format.specs.declared.fault.BodyCause.{BodyCause}
use Rattle.ax_format.specs.declared.kind.Counter.{Counter}
use Rattle.ax_format.specs.declared.kind.Counter.TheVariants.{One, Two}
use Rattle.ax_format.specs.declared.kind.LastPart.{LastPart}

pub counter_in_octets : (size : Counter) → counter_width size ≡ 8 * counter_octets size
counter_in_octets One = refl
counter_in_octets Two = refl

pub counter_whole : (size : Counter) → counter_width size % 8 ≡ 0
counter_whole One = refl
counter_whole Two = refl

pub two_whole : (b x y : List ℕ) → b ≡ x ++ y → length x % 8 ≡ 0 → length y % 8 ≡ 0 → length b % 8 ≡ 0
two_whole b x y e p q = omega (arith, ap length e, length-append x y)

unit_whole : (b x y : List ℕ) (fx w : ℕ) → b ≡ x ++ fx ∷ y → length x ≡ w → (w + 1) % 8 ≡ 0 → length y % 8 ≡ 0 → length b % 8 ≡ 0
unit_whole b x y fx w e l p q = omega (arith, ap length e, length-append x (fx ∷ y))

end_whole : (b x : List ℕ) (fx w : ℕ) → b ≡ x ++ word fx 0 → length x ≡ w → (w + fx) % 8 ≡ 0 → length b % 8 ≡ 0
end_whole b x fx w e l p = omega (arith, ap length e, length-append x (word fx 0), length-word fx 0)

pub parts_whole : (last : LastPart) (ps : List MembersTree) (ls : ListsTree) (b : List ℕ) → PartsWhole last ps → PartsSpell last ps ls b → length b % 8 ≡ 0
parts_whole last [] no_lists b w h = absurd h
parts_whole last (p ∷ ps) no_lists b w h = absurd h
parts_whole last [] (list_and vs ls) b w h = absurd h
parts_whole last (p ∷ ps) (list_and vs no_lists) b w (x, e, h) = end_whole b x (fx_width last (length ps)) (members_width p) e (members_length p vs x h) w.0
parts_whole last (p ∷ []) (list_and vs (list_and ws ls)) b w (x, y, e, h, t) = absurd t
parts_whole last (p ∷ q ∷ ps) (list_and vs (list_and ws ls)) b w (x, y, e, h, t) = unit_whole b x y 1 (members_width p) e (members_length p vs x h) w.0 (parts_whole last (q ∷ ps) (list_and ws ls) y w.1 t)

pub run_whole : (f : FixedTree) (vs : ValuesTree) (b : List ℕ) → (width f + 1) % 8 ≡ 0 → RunSpells f vs b → length b % 8 ≡ 0
run_whole f no_values b w h = absurd h
run_whole f (value_and v no_values) b w (x, e, h) = unit_whole b x [] 0 (width f) e (fixed_length f v x h) w refl
run_whole f (value_and v (value_and u vs)) b w (x, y, e, h, t) = unit_whole b x y 1 (width f) e (fixed_length f v x h) w (run_whole f (value_and u vs) y w t)

pub each_whole : (R : ValueTree → List ℕ → Type 0) → ((v : ValueTree) (b : List ℕ) → R v b → length b % 8 ≡ 0) → (vs : ValuesTree) (b : List ℕ) → EachSpells R vs b → length b % 8 ≡ 0
each_whole R one no_values b h = omega (arith, ap length h)
each_whole R one (value_and v vs) b (x, y, e, h, t) = two_whole b x y e (one v x h) (each_whole R one vs y t)

pub presence_whole : (k : ℕ) (ms f : List ℕ) → Presence k ms f → length f % 8 ≡ 0
presence_whole zero ms f h = absurd h
presence_whole (suc k) ms f (seven, l, bit, inl (e, g)) = unit_whole f seven [] 0 7 g l refl refl
presence_whole (suc k) ms f (seven, l, bit, inr (more, y, e, g, t)) = unit_whole f seven y 1 7 g l refl (presence_whole k more y t)

mutual
  pub spells_whole : (k : KindTree) (v : ValueTree) (b : List ℕ) → Whole k → Spells k v b → length b % 8 ≡ 0
  spells_whole (fixed f) v b w h = let l : length b ≡ width f = fixed_length f v b h in omega arith
  spells_whole (extended last ps) (part_values ls) b w h = parts_whole last ps ls b w h
  spells_whole (extended last ps) _ b w h = absurd h
  spells_whole (counted size k) (occurrences vs) b w (le, y, e, h) =
      two_whole b (word (counter_width size) (value_count vs)) y e (ap (λ n. n % 8) (length-word (counter_width size) (value_count vs)) ∙ counter_whole size) (each_whole (Spells k) (λ v b t. spells_whole k v b w t) vs y h)
  spells_whole (counted size k) _ b w h = absurd h
  spells_whole (by_fx f) (occurrences vs) b w h = run_whole f vs b w h
  spells_whole (by_fx f) _ b w h = absurd h
  spells_whole explicit (content_octets xs) b w (le, all, e) = two_whole b (word 8 (1 + length xs)) (bits xs) e refl (omega (arith, length-bits xs))
  spells_whole explicit _ b w h = absurd h
  spells_whole (compound ss) (marked es) b w (f, y, ms, e, p, h) = two_whole b f y e (presence_whole (octets_needed (slot_count ss)) ms f p) (entries_whole 1 ss ms es y w h)
  spells_whole (compound ss) _ b w h = absurd h

  entries_whole : (s : ℕ) (ss : SlotsTree) (ms : List ℕ) (es : EntriesTree) (b : List ℕ) → SlotsWhole ss → EntriesSpell s ss ms es b → length b % 8 ≡ 0
  entries_whole s no_slots ms no_entries b w h = omega (arith, ap length h.1)
  entries_whole s no_slots ms (entry_and t v es) b w h = absurd h
  entries_whole s (slot_and spare_slot ss) ms es b w h = entries_whole (s + 1) ss (later_marks ms) es b w h.1
  entries_whole s (slot_and (subitem name k) ss) ms no_entries b w h = entries_whole (s + 1) ss (later_marks ms) no_entries b w.1 h.1
  entries_whole s (slot_and (subitem name k) ss) ms (entry_and t v es) b w (inl (m, e, x, y, f, p, q)) = two_whole b x y f (spells_whole k v x w.0 p) (entries_whole (s + 1) ss (later_marks ms) es y w.1 q)
  entries_whole s (slot_and (subitem name k) ss) ms (entry_and t v es) b w (inr (m, q)) = entries_whole (s + 1) ss (later_marks ms) (entry_and t v es) b w.1 q

-- ---- places

parts_within : (last : LastPart) (ps : List MembersTree) (b : List ℕ) (p : ℕ) (c : BodyCause) → PartsFail last ps b p c → p ≤ length b
parts_within last [] b p c h = absurd h
parts_within last (ms ∷ ps) b p c (inl h) = omega arith
parts_within last (ms ∷ ps) b p c (inr (x, y, l, e, inl (f, o, g, h))) = omega (arith, ap length e, length-append x (1 ∷ y))
parts_within last (ms ∷ ps) b p c (inr (x, y, l, e, inr (q, f, h))) = let le : q ≤ length y = parts_within last ps y q c h in omega (arith, ap length e, length-append x (1 ∷ y))

run_within : (n : ℕ) (f : FixedTree) (b : List ℕ) (p : ℕ) (c : BodyCause) → RunFails n f b p c → p ≤ length b
run_within zero f b p c h = omega arith
run_within (suc n) f b p c (x, y, l, e, q, g, h) = let le : q ≤ length y = run_within n f y q c h in omega (arith, ap length e, length-append x (1 ∷ y))

undefined_within : (ds : List Bool) (ms : List ℕ) (j : ℕ) → FirstUndefined ds ms j → j < length ms
undefined_within ds [] j h = absurd h
undefined_within ds (m ∷ ms) zero h = omega arith
undefined_within ds (m ∷ ms) (suc j) h = omega (arith, undefined_within (later_slots ds) ms j h.1)

presence_within : (k : ℕ) (ds : List Bool) (b : List ℕ) (p : ℕ) (c : BodyCause) → PresenceFails k ds b p c → p ≤ length b
presence_within zero ds b p c h = absurd h
presence_within (suc k) ds b p c (inl h) = omega arith
presence_within (suc k) ds b p c (inr (x, fx, y, l, e, inl (h, f))) = omega (arith, undefined_within ds x p h, ap length e, length-append x (fx ∷ y))
presence_within (suc k) ds b p c (inr (x, fx, y, l, e, inr (clear, f, inl (z, g, h)))) = omega (arith, ap length e, length-append x (fx ∷ y))
presence_within (suc k) ds b p c (inr (x, fx, y, l, e, inr (clear, f, inr (q, g, h)))) =
    let le : q ≤ length y = presence_within k (slots_past x ds) y q c h in omega (arith, ap length e, length-append x (fx ∷ y))

later_within : (b x y : List ℕ) (p q : ℕ) → b ≡ x ++ y → p ≡ length x + q → q ≤ length y → p ≤ length b
later_within b x y p q e f le = omega (arith, ap length e, length-append x y)

mutual
  pub fails_within : (k : KindTree) (b : List ℕ) (p : ℕ) (c : BodyCause) → Fails k b p c → p ≤ length b
  fails_within (fixed f) b p c h = omega arith
  fails_within (extended last ps) b p c h = parts_within last ps b p c h
  fails_within (counted size k) b p c (inl h) = omega arith
  fails_within (counted size k) b p c (inr (r, le, vs, lt, x, y, e, h, q, f, g)) =
      let in_rest : q ≤ length y = fails_within k y q c g in omega (arith, ap length e, length-append (word (counter_width size) r) (x ++ y), length-append x y, length-word (counter_width size) r)
  fails_within (by_fx f) b p c (n, h) = run_within n f b p c h
  fails_within explicit b p c (inl h) = omega arith
  fails_within explicit b p c (inr (inl (y, e, f, g))) = omega arith
  fails_within explicit b p c (inr (inr (m, le, y, e, lt, f, g))) = omega (arith, ap length e)
  fails_within (compound ss) b p c (inl h) = presence_within (octets_needed (slot_count ss)) (defined_slots ss) b p c h
  fails_within (compound ss) b p c (inr (ms, x, y, e, h, clear, q, f, g)) = later_within b x y p q e f (entries_within ss ms y q c g)

  entries_within : (ss : SlotsTree) (ms b : List ℕ) (p : ℕ) (c : BodyCause) → EntriesFail ss ms b p c → p ≤ length b
  entries_within no_slots ms b p c h = absurd h
  entries_within (slot_and spare_slot ss) ms b p c h = entries_within ss (later_marks ms) b p c h
  entries_within (slot_and (subitem name k) ss) ms b p c (inl h) = fails_within k b p c h.1
  entries_within (slot_and (subitem name k) ss) ms b p c (inr (inl (m, v, x, y, e, h, q, f, g))) = later_within b x y p q e f (entries_within ss (later_marks ms) y q c g)
  entries_within (slot_and (subitem name k) ss) ms b p c (inr (inr h)) = entries_within ss (later_marks ms) b p c h.1
