-- The texts of a value's tokens, in front of others (the form in which `text` writes and `build` reads).
use Rattle.std.specs.Prelude.{ℕ, ◌+◌, ◌==◌, if◌then◌else◌, List, [], ◌∷◌, ◌++◌, codes, decimal}
use Rattle.hex.specs.Hex.{encode_lower}
use Rattle.ax_tokens.specs.Octets.{quote}
use Rattle.ax_format.specs.Tree.{FixedTree, element, group, MemberTree, MembersTree, member_and, named, spare, KindTree, fixed, extended, counted, by_fx, explicit, compound, SlotsTree, no_slots, slot_and, spare_slot, subitem, ValueTree, number, member_values, part_values, occurrences, content_octets, marked, ValuesTree, no_values, value_and, ListsTree, list_and, EntriesTree, no_entries, entry_and}

abbrev pub Texts : Type 0
Texts = List (List ℕ)

-- ---- single tokens

abbrev pub opening : List ℕ
opening = codes "{"

abbrev pub closing : List ℕ
closing = codes "}"

abbrev pub spare_word : List ℕ
spare_word = codes "spare"

abbrev pub part_word : List ℕ
part_word = codes "part"

-- octets are two lower-case hexadecimal digits each, and all stand in quotes
abbrev pub hex_text : List ℕ → List ℕ
hex_text octets = quote ∷ (encode_lower octets ++ quote ∷ [])

-- one text
abbrev pub one_onto : List ℕ → Texts → Texts
one_onto text rest = text ∷ rest

-- texts in braces
abbrev pub in_braces : (Texts → Texts) → Texts → Texts
in_braces onto rest = opening ∷ onto (closing ∷ rest)

-- ---- fixed kinds

-- a number is in decimal
abbrev pub number_onto : ValueTree → Texts → Texts
number_onto (number n) rest = decimal n ∷ rest
number_onto _ rest = rest

abbrev mutual
  -- a group is its members in braces, in order
  pub fixed_onto : FixedTree → ValueTree → Texts → Texts
  fixed_onto (element w c) v rest = number_onto v rest
  fixed_onto (group ms) (member_values vs) rest = in_braces (members_onto ms vs) rest
  fixed_onto (group ms) _ rest = rest

  -- a named member is its name and its value, and spare bits are `spare` and their number
  pub member_onto : MemberTree → ValueTree → Texts → Texts
  member_onto (named name f) v rest = name ∷ fixed_onto f v rest
  member_onto (spare w) v rest = spare_word ∷ number_onto v rest

  pub members_onto : MembersTree → ValuesTree → Texts → Texts
  members_onto (member_and m ms) (value_and v vs) rest = member_onto m v (members_onto ms vs rest)
  members_onto _ _ rest = rest

-- ---- kinds

-- a part is `part` and its members in braces
abbrev pub part_onto : MembersTree → ValuesTree → Texts → Texts
part_onto p vs rest = part_word ∷ in_braces (members_onto p vs) rest

-- the parts that are present
abbrev pub parts_onto : List MembersTree → ListsTree → Texts → Texts
parts_onto (p ∷ ps) (list_and vs ls) rest = part_onto p vs (parts_onto ps ls rest)
parts_onto _ _ rest = rest

abbrev pub each_onto : (ValueTree → Texts → Texts) → ValuesTree → Texts → Texts
each_onto onto no_values rest = rest
each_onto onto (value_and v vs) rest = onto v (each_onto onto vs rest)

abbrev mutual
  pub kind_onto : KindTree → ValueTree → Texts → Texts
  kind_onto (fixed f) v rest = fixed_onto f v rest
  kind_onto (extended last ps) (part_values ls) rest = in_braces (parts_onto ps ls) rest
  kind_onto (counted size k) (occurrences vs) rest = in_braces (each_onto (kind_onto k) vs) rest
  kind_onto (by_fx f) (occurrences vs) rest = in_braces (each_onto (fixed_onto f) vs) rest
  kind_onto explicit (content_octets xs) rest = hex_text xs ∷ rest
  kind_onto (compound ss) (marked es) rest = in_braces (entries_onto 1 ss es) rest
  kind_onto _ _ rest = rest

  -- each entry is the name of its slot and its value, in ascending order of the slots; the first of these slots has the
  -- number s
  pub entries_onto : ℕ → SlotsTree → EntriesTree → Texts → Texts
  entries_onto s no_slots es rest = rest
  entries_onto s (slot_and spare_slot ss) es rest = entries_onto (s + 1) ss es rest
  entries_onto s (slot_and (subitem name k) ss) no_entries rest = entries_onto (s + 1) ss no_entries rest
  entries_onto s (slot_and (subitem name k) ss) (entry_and t v es) rest =
      if t == s then name ∷ kind_onto k v (entries_onto (s + 1) ss es rest) else entries_onto (s + 1) ss (entry_and t v es) rest
