-- Which bits spell which value of a kind (field kinds).
use Rattle.std.specs.Prelude.{◌≡◌, ℕ, ◌+◌, ◌^◌, ◌<◌, ◌⊎◌, IsTrue, List, [], ◌∷◌, ◌++◌, length}
use Rattle.ax_bits.specs.Bits.{word, bits, AreOctets}
use Rattle.ax_format.specs.Presence.{Presence, octets_needed, first_mark, later_marks, none_marked}
use Rattle.ax_format.specs.Tree.{FixedTree, element, group, MembersTree, no_members, member_and, named, spare, KindTree, fixed, extended, counted, by_fx, explicit, compound, SlotsTree, no_slots, slot_and, spare_slot, subitem, slot_count, ValueTree, number, member_values, part_values, occurrences, content_octets, marked, ValuesTree, no_values, value_and, value_count, ListsTree, no_lists, list_and, EntriesTree, no_entries, entry_and}
use Rattle.ax_format.specs.Widths.{counter_width, fx_width}
use Rattle.ax_format.specs.declared.kind.LastPart.{LastPart}

-- ---- fixed kinds

-- an element or a spare: its number in w bits
abbrev pub NumberSpells : ℕ → ValueTree → List ℕ → Type 0
NumberSpells w (number n) b = (n < 2 ^ w) × (b ≡ word w n)
NumberSpells w _ b = ⊥

abbrev mutual
  pub FixedSpells : FixedTree → ValueTree → List ℕ → Type 0
  FixedSpells (element w c) v b = NumberSpells w v b
  FixedSpells (group ms) (member_values vs) b = MembersSpell ms vs b
  FixedSpells (group ms) _ b = ⊥

  -- one value for each member, in order
  pub MembersSpell : MembersTree → ValuesTree → List ℕ → Type 0
  MembersSpell no_members no_values b = b ≡ []
  MembersSpell no_members (value_and v vs) b = ⊥
  MembersSpell (member_and (named name f) ms) no_values b = ⊥
  MembersSpell (member_and (named name f) ms) (value_and v vs) b = (x : List ℕ) × (y : List ℕ) × (b ≡ x ++ y) × FixedSpells f v x × MembersSpell ms vs y
  MembersSpell (member_and (spare w) ms) no_values b = ⊥
  MembersSpell (member_and (spare w) ms) (value_and v vs) b = (x : List ℕ) × (y : List ℕ) × (b ≡ x ++ y) × NumberSpells w v x × MembersSpell ms vs y

-- ---- extended, by FX, counted

-- the first parts, one list for each; after each the FX bit, 1 where another list follows and 0 where none does, and
-- nothing after the members of the last part where that has no FX
abbrev pub PartsSpell : LastPart → List MembersTree → ListsTree → List ℕ → Type 0
PartsSpell last ps no_lists b = ⊥
PartsSpell last [] (list_and vs ls) b = ⊥
PartsSpell last (p ∷ ps) (list_and vs no_lists) b = (x : List ℕ) × (b ≡ x ++ word (fx_width last (length ps)) 0) × MembersSpell p vs x
PartsSpell last (p ∷ ps) (list_and vs ls) b = (x : List ℕ) × (y : List ℕ) × (b ≡ x ++ 1 ∷ y) × MembersSpell p vs x × PartsSpell last ps ls y

-- one or more values; after each the FX bit, 1 where another follows and 0 where none does
abbrev pub RunSpells : FixedTree → ValuesTree → List ℕ → Type 0
RunSpells f no_values b = ⊥
RunSpells f (value_and v no_values) b = (x : List ℕ) × (b ≡ x ++ 0 ∷ []) × FixedSpells f v x
RunSpells f (value_and v vs) b = (x : List ℕ) × (y : List ℕ) × (b ≡ x ++ 1 ∷ y) × FixedSpells f v x × RunSpells f vs y

-- each value by one rule, joined in order
abbrev pub EachSpells : (ValueTree → List ℕ → Type 0) → ValuesTree → List ℕ → Type 0
EachSpells R no_values b = b ≡ []
EachSpells R (value_and v vs) b = (x : List ℕ) × (y : List ℕ) × (b ≡ x ++ y) × R v x × EachSpells R vs y

-- ---- kinds

abbrev mutual
  -- counted: the counter REP in front; explicit: an octet with the length, itself included; compound: a presence field in front
  pub Spells : KindTree → ValueTree → List ℕ → Type 0
  Spells (fixed f) v b = FixedSpells f v b
  Spells (extended last ps) (part_values ls) b = PartsSpell last ps ls b
  Spells (extended last ps) _ b = ⊥
  Spells (counted size k) (occurrences vs) b = (value_count vs < 2 ^ counter_width size) × (y : List ℕ) × (b ≡ word (counter_width size) (value_count vs) ++ y) × EachSpells (Spells k) vs y
  Spells (counted size k) _ b = ⊥
  Spells (by_fx f) (occurrences vs) b = RunSpells f vs b
  Spells (by_fx f) _ b = ⊥
  Spells explicit (content_octets xs) b = (length xs < 255) × AreOctets xs × (b ≡ word 8 (1 + length xs) ++ bits xs)
  Spells explicit _ b = ⊥
  Spells (compound ss) (marked es) b =
      (f : List ℕ) × (y : List ℕ) × (marks : List ℕ) × (b ≡ f ++ y) × Presence (octets_needed (slot_count ss)) marks f × EntriesSpell 1 ss marks es y
  Spells (compound ss) _ b = ⊥

  -- an entry for each marked slot, in order, and no slot marked that is undefined; the first of these slots has the
  -- number s, and the first mark is its
  pub EntriesSpell : ℕ → SlotsTree → List ℕ → EntriesTree → List ℕ → Type 0
  EntriesSpell s no_slots ms no_entries b = IsTrue (none_marked ms) × (b ≡ [])
  EntriesSpell s no_slots ms (entry_and t v es) b = ⊥
  EntriesSpell s (slot_and spare_slot ss) ms es b = (first_mark ms ≡ 0) × EntriesSpell (s + 1) ss (later_marks ms) es b
  EntriesSpell s (slot_and (subitem name k) ss) ms no_entries b = (first_mark ms ≡ 0) × EntriesSpell (s + 1) ss (later_marks ms) no_entries b
  EntriesSpell s (slot_and (subitem name k) ss) ms (entry_and t v es) b =
      ((first_mark ms ≡ 1) × (t ≡ s) × (x : List ℕ) × (y : List ℕ) × (b ≡ x ++ y) × Spells k v x × EntriesSpell (s + 1) ss (later_marks ms) es y)
      ⊎ ((first_mark ms ≡ 0) × EntriesSpell (s + 1) ss (later_marks ms) (entry_and t v es) b)

-- the same, for clauses
pub record IsSpelling (k : KindTree) (v : ValueTree) (b : List ℕ) : Type 0 where
  pub spells : Spells k v b
