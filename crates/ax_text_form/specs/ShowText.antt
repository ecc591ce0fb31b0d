-- The listing of a block: a line for the block, one for each record, and one or more for each thing in it, at its path.
use Rattle.std.specs.Prelude.{ℕ, ◌+◌, ◌==◌, if◌then◌else◌, List, [], ◌∷◌, ◌++◌, length, codes, decimal}
use Rattle.ax_format.specs.Blocks.{BlockTree, read_block, opaque_block}
use Rattle.ax_format.specs.CanonicalOctets.{canon_length}
use Rattle.ax_format.specs.Fitting.{list_count}
use Rattle.ax_format.specs.Lengths.{capped}
use Rattle.ax_format.specs.Paths.{three_digits, at}
use Rattle.ax_format.specs.Specification.{SpecTree, record_slots}
use Rattle.ax_format.specs.Tree.{FixedTree, element, group, MembersTree, member_and, MemberTree, named, spare, KindTree, fixed, extended, counted, by_fx, explicit, compound, SlotsTree, no_slots, slot_and, spare_slot, subitem, ValueTree, number, member_values, part_values, occurrences, content_octets, marked, ValuesTree, no_values, value_and, value_count, ListsTree, list_and, EntriesTree, no_entries, entry_and}
use Rattle.ax_format.specs.declared.content.Content.{Content}
use Rattle.ax_text_form.specs.Printing.{as_lines}
use Rattle.ax_text_form.specs.Remarks.{remark}
use Rattle.ax_text_form.specs.ValueText.{Texts, hex_text}

-- ---- single lines

abbrev pub number_line : List ℕ → ℕ → List ℕ
number_line path n = path ++ codes " = " ++ decimal n

-- an element of w bits that spell n: the number, and what it means
abbrev pub element_line : ℕ → Content → List ℕ → ℕ → List ℕ
element_line w c path n = number_line path n ++ remark w c n

-- how many there are of what the word says
abbrev pub count_line : List ℕ → List ℕ → ℕ → List ℕ
count_line path word n = path ++ codes " " ++ word ++ codes " " ++ decimal n

abbrev pub content_line : List ℕ → List ℕ → List ℕ
content_line path octets = path ++ codes " octets " ++ hex_text octets

-- ---- fixed kinds, in front of other lines

abbrev mutual
  -- an element is its number and what that means; a group is its members
  pub fixed_lines : FixedTree → List ℕ → ValueTree → Texts → Texts
  fixed_lines (element w c) path (number n) rest = element_line w c path n ∷ rest
  fixed_lines (group ms) path (member_values vs) rest = members_lines ms path vs rest
  fixed_lines _ path _ rest = rest

  pub member_lines : MemberTree → List ℕ → ValueTree → Texts → Texts
  member_lines (named name f) path v rest = fixed_lines f (at path name) v rest
  member_lines (spare w) path (number n) rest = number_line (at path (codes "spare")) n ∷ rest
  member_lines _ path _ rest = rest

  pub members_lines : MembersTree → List ℕ → ValuesTree → Texts → Texts
  members_lines (member_and m ms) path (value_and v vs) rest = member_lines m path v (members_lines ms path vs rest)
  members_lines _ path _ rest = rest

-- ---- kinds

-- the members of the parts that are present
abbrev pub parts_lines : List MembersTree → List ℕ → ListsTree → Texts → Texts
parts_lines (p ∷ ps) path (list_and vs ls) rest = members_lines p path vs (parts_lines ps path ls rest)
parts_lines _ path _ rest = rest

-- how many parts are present, and their members
abbrev pub extended_lines : List MembersTree → List ℕ → ListsTree → Texts → Texts
extended_lines ps path ls rest = count_line path (codes "parts") (list_count ls) ∷ parts_lines ps path ls rest

-- the path of an occurrence, which is numbered from 0
abbrev pub occurrence : List ℕ → ℕ → List ℕ
occurrence path i = path ++ codes "[" ++ decimal i ++ codes "]"

-- occurrences, of which the first has the number i
abbrev pub each_lines : (List ℕ → ValueTree → Texts → Texts) → List ℕ → ℕ → ValuesTree → Texts → Texts
each_lines lines path i no_values rest = rest
each_lines lines path i (value_and v vs) rest = lines (occurrence path i) v (each_lines lines path (i + 1) vs rest)

-- how many occurrences there are, and each of them
abbrev pub repeated_lines : (List ℕ → ValueTree → Texts → Texts) → List ℕ → ValuesTree → Texts → Texts
repeated_lines lines path vs rest = count_line path (codes "occurrences") (value_count vs) ∷ each_lines lines path 0 vs rest

abbrev pub entry_count : EntriesTree → ℕ
entry_count no_entries = 0
entry_count (entry_and t v es) = entry_count es + 1

abbrev mutual
  pub kind_lines : KindTree → List ℕ → ValueTree → Texts → Texts
  kind_lines (fixed f) path v rest = fixed_lines f path v rest
  kind_lines (extended last ps) path (part_values ls) rest = extended_lines ps path ls rest
  kind_lines (counted size k) path (occurrences vs) rest = repeated_lines (kind_lines k) path vs rest
  kind_lines (by_fx f) path (occurrences vs) rest = repeated_lines (fixed_lines f) path vs rest
  kind_lines explicit path (content_octets xs) rest = content_line path xs ∷ rest
  kind_lines (compound ss) path (marked es) rest = count_line path (codes "subitems") (entry_count es) ∷ entries_lines path 1 ss es rest
  kind_lines _ path _ rest = rest

  -- each entry at the path of its slot's name; the first of these slots has the number s
  pub entries_lines : List ℕ → ℕ → SlotsTree → EntriesTree → Texts → Texts
  entries_lines path s no_slots es rest = rest
  entries_lines path s (slot_and spare_slot ss) es rest = entries_lines path (s + 1) ss es rest
  entries_lines path s (slot_and (subitem name k) ss) no_entries rest = entries_lines path (s + 1) ss no_entries rest
  entries_lines path s (slot_and (subitem name k) ss) (entry_and t v es) rest =
      if t == s then kind_lines k (at path name) v (entries_lines path (s + 1) ss es rest) else entries_lines path (s + 1) ss (entry_and t v es) rest

-- ---- records and blocks

-- a record of that number in its block, and its items in ascending field reference number (FRN)
abbrev pub record_lines : SpecTree → ℕ → EntriesTree → Texts → Texts
record_lines spec i entries rest = (codes "record " ++ decimal i) ∷ entries_lines (three_digits spec.category) 1 (record_slots spec) entries rest

-- records, of which the first has the number i
abbrev pub records_lines : SpecTree → ℕ → List EntriesTree → Texts → Texts
records_lines spec i [] rest = rest
records_lines spec i (r ∷ rs) rest = record_lines spec i r (records_lines spec (i + 1) rs rest)

-- the number of a block in its input, its category, and the octets of its canonical form
abbrev pub block_front : ℕ → ℕ → ℕ → List ℕ
block_front n category octets = codes "block " ++ decimal n ++ codes " category " ++ three_digits category ++ codes " octets " ++ decimal octets

-- a block whose category has no specification; its canonical form is CAT, LEN and the content
abbrev pub OpaqueShown : ℕ → ℕ → List ℕ → List ℕ
OpaqueShown n category content = as_lines ((block_front n category (3 + length content) ++ codes " opaque " ++ hex_text content) ∷ [])

-- a count of octets is capped at 2^64 - 1; that of a block that was read is at most 65,535
abbrev pub ShowText : SpecTree → BlockTree → ℕ → List ℕ
ShowText spec (read_block category records) n =
    as_lines ((block_front n category (capped (canon_length spec (read_block category records))) ++ codes " records " ++ decimal (length records)) ∷ records_lines spec 0 records [])
ShowText spec (opaque_block category content) n = OpaqueShown n category content
