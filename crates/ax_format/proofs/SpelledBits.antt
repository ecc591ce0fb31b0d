-- What is spelled is bits.
use Rattle.std.proofs.Common.{◌≡◌, ℕ, zero, suc, ◌+◌, inl, inr, List, [], ◌∷◌, ◌++◌, length, sym, arith, subst}
use Rattle.ax_bits.proofs.Words.{word-AreBits, append-AreBits, bits-AreBits}
use Rattle.ax_bits.specs.Bits.{word, bits, AreBits}
use Rattle.ax_format.specs.Bodies.{RecordsSpell}
use Rattle.ax_format.specs.Presence.{Presence, octets_needed, later_marks}
use Rattle.ax_format.specs.Specification.{SpecTree, record_kind}
use Rattle.ax_format.specs.Spelling.{NumberSpells, FixedSpells, MembersSpell, PartsSpell, RunSpells, EachSpells, Spells, EntriesSpell}
use Rattle.ax_format.specs.Tree.{FixedTree, element, group, member_values, number, MembersTree, no_members, member_and, named, spare, ListsTree, no_lists, list_and, ValuesTree, no_values, value_and, ValueTree, KindTree, fixed, extended, part_values, counted, occurrences, value_count, by_fx, explicit, content_octets, compound, marked, slot_count, SlotsTree, EntriesTree, no_slots, no_entries, entry_and, slot_and, spare_slot, subitem}
use Rattle.ax_format.specs.Widths.{counter_width, fx_width}
use Rattle.ax_format.specs.declared.kind.LastPart.{LastPart}

both_bits : (b x y : List ℕ) → b ≡ x ++ y → AreBits x → AreBits y → AreBits b
both_bits b x y e p q = subst AreBits (sym e) (append-AreBits x y p q)

number_bits : (w : ℕ) (v : ValueTree) (b : List ℕ) → NumberSpells w v b → AreBits b
number_bits w (number n) b h = subst AreBits (sym h.1) (word-AreBits w n)
number_bits w _ b h = absurd h

mutual
  fixed_bits : (f : FixedTree) (v : ValueTree) (b : List ℕ) → FixedSpells f v b → AreBits b
  fixed_bits (element w c) v b h = number_bits w v b h
  fixed_bits (group ms) (member_values vs) b h = members_bits ms vs b h
  fixed_bits (group ms) _ b h = absurd h

  members_bits : (ms : MembersTree) (vs : ValuesTree) (b : List ℕ) → MembersSpell ms vs b → AreBits b
  members_bits no_members no_values b h = subst AreBits (sym h) tt
  members_bits no_members (value_and v vs) b h = absurd h
  members_bits (member_and (named name f) ms) no_values b h = absurd h
  members_bits (member_and (spare w) ms) no_values b h = absurd h
  members_bits (member_and (named name f) ms) (value_and v vs) b (x, y, e, p, q) = both_bits b x y e (fixed_bits f v x p) (members_bits ms vs y q)
  members_bits (member_and (spare w) ms) (value_and v vs) b (x, y, e, p, q) = both_bits b x y e (number_bits w v x p) (members_bits ms vs y q)

parts_bits : (last : LastPart) (ps : List MembersTree) (ls : ListsTree) (b : List ℕ) → PartsSpell last ps ls b → AreBits b
parts_bits last [] no_lists b h = absurd h
parts_bits last (p ∷ ps) no_lists b h = absurd h
parts_bits last [] (list_and vs ls) b h = absurd h
parts_bits last (p ∷ ps) (list_and vs no_lists) b (x, e, h) = both_bits b x (word (fx_width last (length ps)) 0) e (members_bits p vs x h) (word-AreBits (fx_width last (length ps)) 0)
parts_bits last (p ∷ ps) (list_and vs (list_and ws ls)) b (x, y, e, h, t) = both_bits b x (1 ∷ y) e (members_bits p vs x h) (omega arith, parts_bits last ps (list_and ws ls) y t)

run_bits : (f : FixedTree) (vs : ValuesTree) (b : List ℕ) → RunSpells f vs b → AreBits b
run_bits f no_values b h = absurd h
run_bits f (value_and v no_values) b (x, e, h) = both_bits b x (0 ∷ []) e (fixed_bits f v x h) (omega arith, tt)
run_bits f (value_and v (value_and u vs)) b (x, y, e, h, t) = both_bits b x (1 ∷ y) e (fixed_bits f v x h) (omega arith, run_bits f (value_and u vs) y t)

each_bits : (R : ValueTree → List ℕ → Type 0) → ((v : ValueTree) (b : List ℕ) → R v b → AreBits b) → (vs : ValuesTree) (b : List ℕ) → EachSpells R vs b → AreBits b
each_bits R one no_values b h = subst AreBits (sym h) tt
each_bits R one (value_and v vs) b (x, y, e, h, t) = both_bits b x y e (one v x h) (each_bits R one vs y t)

presence_bits : (k : ℕ) (ms f : List ℕ) → Presence k ms f → AreBits f
presence_bits zero ms f h = absurd h
presence_bits (suc k) ms f (seven, l, bit, inl (e, g)) = both_bits f seven (0 ∷ []) g bit (omega arith, tt)
presence_bits (suc k) ms f (seven, l, bit, inr (more, y, e, g, t)) = both_bits f seven (1 ∷ y) g bit (omega arith, presence_bits k more y t)

mutual
  pub spells_bits : (k : KindTree) (v : ValueTree) (b : List ℕ) → Spells k v b → AreBits b
  spells_bits (fixed f) v b h = fixed_bits f v b h
  spells_bits (extended last ps) (part_values ls) b h = parts_bits last ps ls b h
  spells_bits (extended last ps) _ b h = absurd h
  spells_bits (counted size k) (occurrences vs) b (le, y, e, h) = both_bits b (word (counter_width size) (value_count vs)) y e (word-AreBits (counter_width size) (value_count vs)) (each_bits (Spells k) (λ v b t. spells_bits k v b t) vs y h)
  spells_bits (counted size k) _ b h = absurd h
  spells_bits (by_fx f) (occurrences vs) b h = run_bits f vs b h
  spells_bits (by_fx f) _ b h = absurd h
  spells_bits explicit (content_octets xs) b (le, all, e) = both_bits b (word 8 (1 + length xs)) (bits xs) e (word-AreBits 8 (1 + length xs)) (bits-AreBits xs)
  spells_bits explicit _ b h = absurd h
  spells_bits (compound ss) (marked es) b (f, y, ms, e, p, h) = both_bits b f y e (presence_bits (octets_needed (slot_count ss)) ms f p) (entries_bits 1 ss ms es y h)
  spells_bits (compound ss) _ b h = absurd h

  entries_bits : (s : ℕ) (ss : SlotsTree) (ms : List ℕ) (es : EntriesTree) (b : List ℕ) → EntriesSpell s ss ms es b → AreBits b
  entries_bits s no_slots ms no_entries b h = subst AreBits (sym h.1) tt
  entries_bits s no_slots ms (entry_and t v es) b h = absurd h
  entries_bits s (slot_and spare_slot ss) ms es b h = entries_bits (s + 1) ss (later_marks ms) es b h.1
  entries_bits s (slot_and (subitem name k) ss) ms no_entries b h = entries_bits (s + 1) ss (later_marks ms) no_entries b h.1
  entries_bits s (slot_and (subitem name k) ss) ms (entry_and t v es) b (inl (m, i, x, y, e, p, h)) = both_bits b x y e (spells_bits k v x p) (entries_bits (s + 1) ss (later_marks ms) es y h)
  entries_bits s (slot_and (subitem name k) ss) ms (entry_and t v es) b (inr (m, h)) = entries_bits (s + 1) ss (later_marks ms) (entry_and t v es) b h

-- of records in a row
pub records_bits : (spec : SpecTree) (rs : List EntriesTree) (b : List ℕ) → RecordsSpell spec rs b → AreBits b
records_bits spec [] b h = subst AreBits (sym h) tt
records_bits spec (r ∷ rs) b (x, y, e, h, t) = both_bits b x y e (spells_bits (record_kind spec) (marked r) x h.spells) (records_bits spec rs y t)
