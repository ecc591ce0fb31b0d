-- Kinds and values for the worked examples of alikeness and of conversion.
use Rattle.std.specs.Prelude.{ℕ, List, [], ◌∷◌, codes}
use Rattle.ax_format.specs.Tree.{FixedTree, element, group, members_of, named, spare, KindTree, fixed, extended, counted, compound, slots_of, spare_slot, subitem, EntriesTree, ValueTree, entry_and, lists_of, marked, member_values, no_entries, number, occurrences, part_values, values_of}
use Rattle.ax_format.specs.declared.content.Scale.{Scale}
use Rattle.ax_format.specs.declared.content.Sign.{Sign}
use Rattle.ax_format.specs.declared.content.Content.TheVariants.{Quantity}
use Rattle.ax_format.specs.declared.content.Sign.TheVariants.{Unsigned, Signed}
use Rattle.ax_format.specs.declared.kind.Counter.TheVariants.{One}
use Rattle.ax_format.specs.declared.kind.LastPart.{LastPart}

-- w bits that count pieces of 1 / den of the unit
abbrev pub pieces : ℕ → ℕ → List ℕ → FixedTree
pieces w den unit = element w (Quantity (record { sign = Unsigned; num = 1; den = den; unit = unit }))

-- the same with a sign
abbrev pub signed_pieces : ℕ → ℕ → List ℕ → FixedTree
signed_pieces w den unit = element w (Quantity (record { sign = Signed; num = 1; den = den; unit = unit }))

-- two of one kind with spare bits between them
abbrev pub pair : ℕ → FixedTree → KindTree
pair w f = fixed (group (members_of (named (codes "A") f ∷ spare w ∷ named (codes "B") f ∷ [])))

-- one part of one element
abbrev pub in_a_part : LastPart → FixedTree → KindTree
in_a_part last f = extended last (members_of (named (codes "A") f ∷ []) ∷ [])

abbrev pub subitems : KindTree → KindTree
subitems k = compound (slots_of (subitem (codes "A") k ∷ spare_slot ∷ []))

abbrev pub many : KindTree → KindTree
many k = counted One k

-- values of such kinds: two numbers with spare bits between them, occurrences, and compounds with their subitem and without
abbrev pub with_spare : ℕ → ℕ → ℕ → ValueTree
with_spare a between b = member_values (values_of (number a ∷ number between ∷ number b ∷ []))

abbrev pub two_of : ℕ → ℕ → ValueTree
two_of a b = occurrences (values_of (number a ∷ number b ∷ []))

abbrev pub one_and_none : ℕ → ValueTree
one_and_none a = occurrences (values_of (marked (entry_and 1 (number a) no_entries) ∷ marked no_entries ∷ []))

-- seconds that are counted in pieces
abbrev pub seconds : ℕ → ℕ → FixedTree
seconds w den = pieces w den (codes "s")

-- two parts, of which the second has all bits set
abbrev pub second_full : EntriesTree
second_full = entry_and 1 (part_values (lists_of ((number 5 ∷ []) ∷ (number 255 ∷ []) ∷ []))) no_entries

-- that scale: a step is 1 / den
abbrev pub steps_of : Sign → ℕ → Scale
steps_of sign den = record { sign = sign; num = 1; den = den; unit = [] }
