-- Which values a kind has (field kinds).
use Rattle.std.specs.Prelude.{ℕ, ◌+◌, ◌^◌, ◌<◌, ◌==◌, MatchBool, List, [], ◌∷◌, length}
use Rattle.ax_bits.specs.Bits.{AreOctets}
use Rattle.ax_format.specs.Tree.{FixedTree, element, group, MembersTree, no_members, member_and, named, spare, KindTree, fixed, extended, counted, by_fx, explicit, compound, SlotsTree, no_slots, slot_and, spare_slot, subitem, ValueTree, number, member_values, part_values, occurrences, content_octets, marked, ValuesTree, no_values, value_and, value_count, ListsTree, no_lists, list_and, EntriesTree, no_entries, entry_and}
use Rattle.ax_format.specs.Widths.{counter_width}

-- a number of w bits
abbrev pub NumberShape : ℕ → ValueTree → Type 0
NumberShape w (number n) = n < 2 ^ w
NumberShape w _ = ⊥

abbrev mutual
  pub FixedShape : FixedTree → ValueTree → Type 0
  FixedShape (element w c) v = NumberShape w v
  FixedShape (group ms) (member_values vs) = MembersShape ms vs
  FixedShape (group ms) _ = ⊥

  -- one value for each member, in order
  pub MembersShape : MembersTree → ValuesTree → Type 0
  MembersShape no_members no_values = Unit {0}
  MembersShape no_members (value_and v vs) = ⊥
  MembersShape (member_and m ms) no_values = ⊥
  MembersShape (member_and (named name f) ms) (value_and v vs) = FixedShape f v × MembersShape ms vs
  MembersShape (member_and (spare w) ms) (value_and v vs) = NumberShape w v × MembersShape ms vs

-- a list for each of the first parts, at least one
abbrev pub PartsShape : List MembersTree → ListsTree → Type 0
PartsShape ps no_lists = ⊥
PartsShape [] (list_and vs ls) = ⊥
PartsShape (p ∷ ps) (list_and vs no_lists) = MembersShape p vs
PartsShape (p ∷ ps) (list_and vs (list_and ws ls)) = MembersShape p vs × PartsShape ps (list_and ws ls)

abbrev pub EachShape : (ValueTree → Type 0) → ValuesTree → Type 0
EachShape R no_values = Unit {0}
EachShape R (value_and v vs) = R v × EachShape R vs

abbrev mutual
  -- counted: as many values as the counter holds, so 255 by one octet and 65,535 by two; by FX: at least one; explicit: at most 254 octets
  pub Shape : KindTree → ValueTree → Type 0
  Shape (fixed f) v = FixedShape f v
  Shape (extended last ps) (part_values ls) = PartsShape ps ls
  Shape (extended last ps) _ = ⊥
  Shape (counted size k) (occurrences vs) = (value_count vs < 2 ^ counter_width size) × EachShape (Shape k) vs
  Shape (counted size k) _ = ⊥
  Shape (by_fx f) (occurrences vs) = (0 < value_count vs) × EachShape (FixedShape f) vs
  Shape (by_fx f) _ = ⊥
  Shape explicit (content_octets xs) = (length xs < 255) × AreOctets xs
  Shape explicit _ = ⊥
  Shape (compound ss) (marked es) = EntriesShape 1 ss es
  Shape (compound ss) _ = ⊥

  -- entries in ascending order, each of a defined slot and of its kind's shape; the first of these slots has the number s
  pub EntriesShape : ℕ → SlotsTree → EntriesTree → Type 0
  EntriesShape s no_slots no_entries = Unit {0}
  EntriesShape s no_slots (entry_and t v es) = ⊥
  EntriesShape s (slot_and spare_slot ss) es = EntriesShape (s + 1) ss es
  EntriesShape s (slot_and (subitem name k) ss) no_entries = EntriesShape (s + 1) ss no_entries
  EntriesShape s (slot_and (subitem name k) ss) (entry_and t v es) =
      MatchBool (t == s) (Shape k v × EntriesShape (s + 1) ss es) (EntriesShape (s + 1) ss (entry_and t v es))
