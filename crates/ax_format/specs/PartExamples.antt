-- Extended items of several editions, and records of them, for the worked examples.
use Rattle.std.specs.Prelude.{ℕ, List, [], ◌∷◌, codes, Option}
use Rattle.ax_format.specs.EditionExamples.{one_item}
use Rattle.ax_format.specs.Named.{Key}
use Rattle.ax_format.specs.Specification.{SpecTree}
use Rattle.ax_format.specs.Tree.{element, MembersTree, named, members_of, extended, number, part_values, lists_of, EntriesTree, no_entries, entry_and}
use Rattle.ax_format.specs.declared.content.Content.{Content}
use Rattle.ax_format.specs.declared.content.Content.TheVariants.{Raw, Table}
use Rattle.ax_format.specs.declared.kind.LastPart.{LastPart}
use Rattle.ax_format.specs.declared.kind.LastPart.TheVariants.{WithFx, WithoutFx}

-- a part of one member of seven bits; of one of eight, with no FX bit
abbrev pub part_of : List ℕ → Content → MembersTree
part_of name c = members_of (named name (element 7 c) ∷ [])

abbrev pub octet_part : List ℕ → MembersTree
octet_part name = members_of (named name (element 8 Raw) ∷ [])

abbrev pub of_parts : List ℕ → LastPart → List MembersTree → SpecTree
of_parts edition last parts = one_item edition (extended last parts)

-- parts A, B and C; A, another one, and C; A, B and another one; another one alone
abbrev pub three_parts : SpecTree
three_parts = of_parts (codes "1") WithFx (part_of (codes "A") Raw ∷ part_of (codes "B") Raw ∷ part_of (codes "C") Raw ∷ [])

abbrev pub other_second : SpecTree
other_second = of_parts (codes "2") WithFx (part_of (codes "A") Raw ∷ part_of (codes "D") Raw ∷ part_of (codes "C") Raw ∷ [])

abbrev pub two_same : SpecTree
two_same = of_parts (codes "3") WithFx (part_of (codes "A") Raw ∷ part_of (codes "B") Raw ∷ part_of (codes "D") Raw ∷ [])

abbrev pub none_same : SpecTree
none_same = of_parts (codes "4") WithFx (part_of (codes "Z") Raw ∷ [])

-- A, and then B of eight bits without FX
abbrev pub closed_second : SpecTree
closed_second = of_parts (codes "5") WithoutFx (part_of (codes "A") Raw ∷ octet_part (codes "B") ∷ [])

-- a table of the seven bits of A
abbrev pub with_table : List ℕ → SpecTree
with_table text = of_parts (codes "6") WithFx (part_of (codes "A") (Table (record { number = 1; text = text } ∷ [])) ∷ [])

-- item 010 with one part, with two and with three
abbrev pub one_part : EntriesTree
one_part = entry_and 1 (part_values (lists_of ((number 1 ∷ []) ∷ []))) no_entries

abbrev pub two_parts : EntriesTree
two_parts = entry_and 1 (part_values (lists_of ((number 1 ∷ []) ∷ (number 2 ∷ []) ∷ []))) no_entries

abbrev pub all_parts : EntriesTree
all_parts = entry_and 1 (part_values (lists_of ((number 1 ∷ []) ∷ (number 2 ∷ []) ∷ (number 3 ∷ []) ∷ []))) no_entries

-- item 010 itself, and its part of that number
abbrev pub own_key : Option ℕ → Key
own_key part = record { names = codes "010" ∷ []; part = part }
