-- A small specification and a block of it for the worked examples.
use Rattle.std.specs.Prelude.{[], ◌∷◌, codes}
use Rattle.ax_format.specs.Blocks.{BlockTree, read_block}
use Rattle.ax_format.specs.Specification.{SpecTree}
use Rattle.ax_format.specs.Tree.{element, group, members_of, named, spare, fixed, extended, counted, by_fx, compound, slots_of, spare_slot, subitem, number, member_values, part_values, occurrences, marked, values_of, lists_of, entries_of}
use Rattle.ax_format.specs.declared.content.Content.{Content}
use Rattle.ax_format.specs.declared.content.Content.TheVariants.{Raw, Integer, Quantity}
use Rattle.ax_format.specs.declared.content.Sign.TheVariants.{Signed}
use Rattle.ax_format.specs.declared.kind.Counter.TheVariants.{One}
use Rattle.ax_format.specs.declared.kind.LastPart.TheVariants.{WithFx}
use Rattle.ax_format.specs.declared.spec.UapSlot.TheVariants as Uap

abbrev pub quarters : Content
quarters = Quantity (record { sign = Signed; num = 1; den = 4; unit = codes "FL" })

-- a group, an extended item, a by-FX item, a compound with a counted subitem
abbrev pub small : SpecTree
small = record {
  category = 7;
  edition = [];
  items = record { name = codes "010"; title = []; kind = fixed (group (members_of (named (codes "A") (element 6 quarters) ∷ spare 2 ∷ []))) }
      ∷ record { name = codes "020"; title = []; kind = extended WithFx (members_of (named (codes "B") (element 7 Raw) ∷ []) ∷ members_of (named (codes "C") (element 7 (Integer Signed)) ∷ []) ∷ []) }
      ∷ record { name = codes "030"; title = []; kind = by_fx (element 7 Raw) }
      ∷ record { name = codes "040"; title = []; kind = compound (slots_of (spare_slot ∷ subitem (codes "D") (counted One (fixed (element 8 Raw))) ∷ [])) } ∷ [];
  uap = Uap.Item (codes "010") ∷ Uap.Item (codes "020") ∷ Uap.Spare ∷ Uap.Item (codes "030") ∷ Uap.Item (codes "040") ∷ [];
}

abbrev pub small_block : BlockTree
small_block = read_block 7 (
    entries_of ((1, member_values (values_of (number 62 ∷ number 3 ∷ []))) ∷ (2, part_values (lists_of ((number 5 ∷ []) ∷ (number 127 ∷ []) ∷ []))) ∷ [])
    ∷ entries_of ((4, occurrences (values_of (number 5 ∷ number 6 ∷ []))) ∷ (5, marked (entries_of ((2, occurrences (values_of (number 9 ∷ []))) ∷ []))) ∷ [])
    ∷ entries_of [] ∷ [])
