-- The canonical spelling of a value (this project's own rule): each presence field, at every depth, is the least.
use Rattle.std.specs.Prelude.{ℕ, ◌+◌, ◌==◌, if◌then◌else◌, List, [], ◌∷◌, ◌++◌, length}
use Rattle.ax_bits.specs.Bits.{word, bits}
use Rattle.ax_format.specs.Presence.{octets_needed, least_presence}
use Rattle.ax_format.specs.Tree.{FixedTree, element, group, MembersTree, no_members, member_and, named, spare, KindTree, fixed, extended, counted, by_fx, explicit, compound, SlotsTree, no_slots, slot_and, spare_slot, subitem, slot_count, ValueTree, number, member_values, part_values, occurrences, content_octets, marked, ValuesTree, no_values, value_and, value_count, ListsTree, no_lists, list_and, EntriesTree, no_entries, entry_and}
use Rattle.ax_format.specs.Widths.{counter_width, fx_width}
use Rattle.ax_format.specs.declared.kind.LastPart.{LastPart}

-- ---- fixed kinds

abbrev pub number_canon : ℕ → ValueTree → List ℕ
number_canon w (number n) = word w n
number_canon w _ = []

abbrev mutual
  pub fixed_canon : FixedTree → ValueTree → List ℕ
  fixed_canon (element w c) v = number_canon w v
  fixed_canon (group ms) (member_values vs) = members_canon ms vs
  fixed_canon (group ms) _ = []

  pub members_canon : MembersTree → ValuesTree → List ℕ
  members_canon no_members vs = []
  members_canon (member_and m ms) no_values = []
  members_canon (member_and (named name f) ms) (value_and v vs) = fixed_canon f v ++ members_canon ms vs
  members_canon (member_and (spare w) ms) (value_and v vs) = number_canon w v ++ members_canon ms vs

-- ---- extended, by FX, counted

abbrev pub parts_canon : LastPart → List MembersTree → ListsTree → List ℕ
parts_canon last [] ls = []
parts_canon last (p ∷ ps) no_lists = []
parts_canon last (p ∷ ps) (list_and vs no_lists) = members_canon p vs ++ word (fx_width last (length ps)) 0
parts_canon last (p ∷ ps) (list_and vs ls) = members_canon p vs ++ 1 ∷ parts_canon last ps ls

abbrev pub run_canon : FixedTree → ValuesTree → List ℕ
run_canon f no_values = []
run_canon f (value_and v no_values) = fixed_canon f v ++ 0 ∷ []
run_canon f (value_and v vs) = fixed_canon f v ++ 1 ∷ run_canon f vs

abbrev pub each_canon : (ValueTree → List ℕ) → ValuesTree → List ℕ
each_canon rule no_values = []
each_canon rule (value_and v vs) = rule v ++ each_canon rule vs

-- ---- kinds

-- a mark for each slot: 1 where there is an entry for it; the first of these slots has the number s
abbrev pub marks_of : ℕ → SlotsTree → EntriesTree → List ℕ
marks_of s no_slots es = []
marks_of s (slot_and spare_slot ss) es = 0 ∷ marks_of (s + 1) ss es
marks_of s (slot_and (subitem name k) ss) no_entries = 0 ∷ marks_of (s + 1) ss no_entries
marks_of s (slot_and (subitem name k) ss) (entry_and t v es) = if t == s then 1 ∷ marks_of (s + 1) ss es else 0 ∷ marks_of (s + 1) ss (entry_and t v es)

abbrev mutual
  pub canon : KindTree → ValueTree → List ℕ
  canon (fixed f) v = fixed_canon f v
  canon (extended last ps) (part_values ls) = parts_canon last ps ls
  canon (extended last ps) _ = []
  canon (counted size k) (occurrences vs) = word (counter_width size) (value_count vs) ++ each_canon (canon k) vs
  canon (counted size k) _ = []
  canon (by_fx f) (occurrences vs) = run_canon f vs
  canon (by_fx f) _ = []
  canon explicit (content_octets xs) = word 8 (1 + length xs) ++ bits xs
  canon explicit _ = []
  canon (compound ss) (marked es) = least_presence (octets_needed (slot_count ss)) (marks_of 1 ss es) ++ entries_canon 1 ss es
  canon (compound ss) _ = []

  -- the spellings of the entries, joined in order; the first of these slots has the number s
  pub entries_canon : ℕ → SlotsTree → EntriesTree → List ℕ
  entries_canon s no_slots es = []
  entries_canon s (slot_and spare_slot ss) es = entries_canon (s + 1) ss es
  entries_canon s (slot_and (subitem name k) ss) no_entries = entries_canon (s + 1) ss no_entries
  entries_canon s (slot_and (subitem name k) ss) (entry_and t v es) =
      if t == s then canon k v ++ entries_canon (s + 1) ss es else entries_canon (s + 1) ss (entry_and t v es)
