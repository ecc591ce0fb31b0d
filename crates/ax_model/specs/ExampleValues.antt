-- Values, records and inputs of the worked examples.
use Rattle.std.specs.Prelude.{ℕ, List, [], ◌∷◌, codes}
use Rattle.ax_format.specs.EditionExamples.{octet_of, one_item}
use Rattle.ax_format.specs.Examples.{seven_bits}
use Rattle.ax_format.specs.Framing.{RawTree}
use Rattle.ax_format.specs.Specification.{SpecTree}
use Rattle.ax_format.specs.Tree.{EntriesTree, KindTree, ValueTree, element, entry_and, extended, marked, member_values, members_of, named, no_entries, number, values_of}
use Rattle.ax_format.specs.declared.content.Content.TheVariants.{Raw}
use Rattle.ax_format.specs.declared.kind.LastPart.TheVariants.{WithFx}

-- two parts of seven and of eight bits, each followed by an FX bit
abbrev pub parts_with_fx : KindTree
parts_with_fx = extended WithFx (members_of (named (codes "A") seven_bits ∷ []) ∷ members_of (named (codes "B") (element 8 Raw) ∷ []) ∷ [])

-- 5, a spare bit that is set, and 2 and 1 in a group
abbrev pub grouped : ValueTree
grouped = member_values (values_of (number 5 ∷ number 1 ∷ member_values (values_of (number 2 ∷ number 1 ∷ [])) ∷ []))

-- items 1 and 8, the second a compound with its subitem 1
abbrev pub two_items : EntriesTree
two_items = entry_and 1 (number 0xaa) (entry_and 8 (marked (entry_and 1 (number 0xbb) no_entries)) no_entries)

-- a block of one octet of content, and the first octet of another
abbrev pub block_and_octet : List ℕ
block_and_octet = 0x3e ∷ 0x00 ∷ 0x04 ∷ 0xaa ∷ 0x30 ∷ []

abbrev pub its_block : List RawTree
its_block = record { category = 0x3e; body = 0xaa ∷ [] } ∷ []

-- one item, an octet
abbrev pub one_octet : SpecTree
one_octet = one_item (codes "1") (octet_of Raw)

-- a record of that item
abbrev pub of_octet : ℕ → EntriesTree
of_octet n = entry_and 1 (number n) no_entries
