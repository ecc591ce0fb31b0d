-- Small editions of one category, and records of them, for the worked examples.
use Rattle.std.specs.Prelude.{ℕ, List, [], ◌∷◌, codes}
use Rattle.ax_format.specs.Examples.{two_octets}
use Rattle.ax_format.specs.Specification.{SpecTree}
use Rattle.ax_format.specs.Tree.{element, members_of, named, spare, KindTree, fixed, extended, counted, compound, slots_of, subitem, number, member_values, part_values, occurrences, values_of, lists_of, marked, EntriesTree, no_entries, entry_and}
use Rattle.ax_format.specs.declared.content.Content.{Content}
use Rattle.ax_format.specs.declared.content.Content.TheVariants.{Raw, Integer, Quantity}
use Rattle.ax_format.specs.declared.content.Sign.TheVariants.{Unsigned}
use Rattle.ax_format.specs.declared.spec.UapSlot.TheVariants as Uap
use Rattle.ax_format.specs.declared.kind.Counter.TheVariants.{One}
use Rattle.ax_format.specs.declared.kind.LastPart.TheVariants.{WithFx}

abbrev pub octet_of : Content → KindTree
octet_of content = fixed (element 8 content)

abbrev pub one_item : List ℕ → KindTree → SpecTree
one_item edition k = record {
  category = 202;
  edition = edition;
  items = record { name = codes "010"; title = []; kind = k } ∷ [];
  uap = Uap.Item (codes "010") ∷ [];
}

-- a compound of A, of one octet, and B, of two
abbrev pub first_edition : SpecTree
first_edition = one_item (codes "1") (compound (slots_of (subitem (codes "A") (octet_of Raw) ∷ subitem (codes "B") two_octets ∷ [])))

-- B before A, and A a whole number
abbrev pub second_edition : SpecTree
second_edition = one_item (codes "2") (compound (slots_of (subitem (codes "B") two_octets ∷ subitem (codes "A") (octet_of (Integer Unsigned)) ∷ [])))

-- one octet in place of the compound
abbrev pub third_edition : SpecTree
third_edition = one_item (codes "3") (octet_of Raw)

-- an octet that counts pieces of num / den metres
abbrev pub scaled : ℕ → ℕ → KindTree
scaled num den = octet_of (Quantity (record { sign = Unsigned; num = num; den = den; unit = codes "m" }))

-- item 010 with both subitems
abbrev pub both_subitems : EntriesTree
both_subitems = entry_and 1 (marked (entry_and 1 (number 0x11) (entry_and 2 (number 0x2233) no_entries))) no_entries

-- with B alone, which is slot 1 of the second edition
abbrev pub second_made : EntriesTree
second_made = entry_and 1 (marked (entry_and 1 (number 0x2233) no_entries)) no_entries

-- a part of three bits, a spare bit and three bits; the same with a name for the spare bit
abbrev pub part_with_spare : KindTree
part_with_spare = extended WithFx (members_of (named (codes "TYP") (element 3 Raw) ∷ spare 1 ∷ named (codes "ME") (element 3 Raw) ∷ []) ∷ [])

abbrev pub part_with_name : KindTree
part_with_name = extended WithFx (members_of (named (codes "TYP") (element 3 Raw) ∷ named (codes "ERR") (element 1 Raw) ∷ named (codes "ME") (element 3 Raw) ∷ []) ∷ [])

-- a counted compound, which is a leaf
abbrev pub counted_pair : List ℕ → List ℕ → KindTree
counted_pair a b = counted One (compound (slots_of (subitem a (octet_of Raw) ∷ subitem b (octet_of Raw) ∷ [])))

-- slot 1 a group of two members, slot 2 an extended value of one part, slot 3 two occurrences
abbrev pub each_value : EntriesTree
each_value =
    entry_and 1 (member_values (values_of (number 25 ∷ number 12 ∷ []))) (entry_and 2 (part_values (lists_of ((number 5 ∷ number 0 ∷ []) ∷ []))) (
    entry_and 3 (occurrences (values_of (number 6 ∷ number 7 ∷ []))) no_entries))
