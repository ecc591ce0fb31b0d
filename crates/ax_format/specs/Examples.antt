-- Small kinds and specifications for the worked examples.
use Rattle.std.specs.Prelude.{ℕ, List, [], ◌∷◌, codes}
use Rattle.ax_format.specs.Specification.{SpecTree}
use Rattle.ax_format.specs.Tree.{FixedTree, element, group, members_of, named, spare, KindTree, fixed, extended, counted, by_fx, compound, slots_of, spare_slot, subitem}
use Rattle.ax_format.specs.declared.content.Content.TheVariants.{Raw, Octal, Quantity}
use Rattle.ax_format.specs.declared.content.Sign.TheVariants.{Unsigned}
use Rattle.ax_format.specs.declared.flaw.Flaw.{Flaw}
use Rattle.ax_format.specs.declared.flaw.FlawKind.{FlawKind}
use Rattle.ax_format.specs.declared.flaw.FlawKind.TheVariants.{DuplicateItem, DuplicateName, UnknownInUap, RepeatedInUap, Empty, BadWidth, NotOctets, PartNotOctets, BodyNotOctets, BadScale, BadStringWidth}
use Rattle.ax_format.specs.declared.spec.UapSlot.TheVariants as Uap
use Rattle.ax_format.specs.declared.kind.Counter.TheVariants.{One}
use Rattle.ax_format.specs.declared.kind.LastPart.TheVariants.{WithFx, WithoutFx}

abbrev pub octet : KindTree
octet = fixed (element 8 Raw)

abbrev pub two_octets : KindTree
two_octets = fixed (element 16 Raw)

abbrev pub seven_bits : FixedTree
seven_bits = element 7 Raw

-- a part of seven bits, and one of four and three
abbrev pub two_parts : KindTree
two_parts = extended WithFx (members_of (named (codes "A") seven_bits ∷ []) ∷ members_of (named (codes "B") (element 4 Raw) ∷ named (codes "C") (element 3 Raw) ∷ []) ∷ [])

-- a part of seven bits, and one of fifteen
abbrev pub long_part : KindTree
long_part = extended WithFx (members_of (named (codes "A") seven_bits ∷ []) ∷ members_of (named (codes "B") (element 15 Raw) ∷ []) ∷ [])

-- a part of seven bits with FX, and one of eight without
abbrev pub closed_parts : KindTree
closed_parts = extended WithoutFx (members_of (named (codes "A") seven_bits ∷ []) ∷ members_of (named (codes "B") (element 8 Raw) ∷ []) ∷ [])

-- three bits, a spare bit, and a group of two and two bits
abbrev pub nested_group : KindTree
nested_group = fixed (group (members_of (
    named (codes "A") (element 3 Raw) ∷ spare 1 ∷ named (codes "B") (group (members_of (named (codes "C") (element 2 Raw) ∷ named (codes "D") (element 2 Raw) ∷ []))) ∷ [])))

-- slots 1 and 3; slot 2 is spare
abbrev pub spare_between : KindTree
spare_between = compound (slots_of (subitem (codes "A") octet ∷ spare_slot ∷ subitem (codes "C") octet ∷ []))

-- slots 1 and 8; those between are spare
abbrev pub eight_slots : KindTree
eight_slots = compound (slots_of (
    subitem (codes "A") octet ∷ spare_slot ∷ spare_slot ∷ spare_slot ∷ spare_slot ∷ spare_slot ∷ spare_slot ∷ subitem (codes "H") octet ∷ []))

abbrev pub one_subitem : KindTree → KindTree
one_subitem k = compound (slots_of (subitem (codes "A") k ∷ []))

-- the items 010, of one octet, and 020, of eight slots; field reference number 8 is 020, and 2 to 7 are spare
abbrev pub small : SpecTree
small = record {
  category = 48;
  edition = codes "1.0";
  items = record { name = codes "010"; title = []; kind = octet } ∷ record { name = codes "020"; title = []; kind = eight_slots } ∷ [];
  uap = Uap.Item (codes "010") ∷ Uap.Spare ∷ Uap.Spare ∷ Uap.Spare ∷ Uap.Spare ∷ Uap.Spare ∷ Uap.Spare ∷ Uap.Item (codes "020") ∷ [];
}

-- an item of seven bits; its name again, by FX of eight bits; an extended item with an empty part and a name twice; a
-- counted compound without slots; a quantity of 72 bits over a denominator of 0, and octal digits in eight bits; a UAP with
-- a name twice and a name that no item has
abbrev pub flawed : SpecTree
flawed = record {
  category = 34;
  edition = codes "1.0";
  items = record { name = codes "010"; title = []; kind = fixed seven_bits } ∷ record { name = codes "010"; title = []; kind = by_fx (element 8 Raw) }
      ∷ record { name = codes "030"; title = []; kind = extended WithFx (members_of [] ∷ members_of (spare 0 ∷ named (codes "A") seven_bits ∷ named (codes "A") (element 8 Raw) ∷ []) ∷ []) }
      ∷ record { name = codes "040"; title = []; kind = counted One (compound (slots_of [])) }
      ∷ record {
        name = codes "050";
        title = [];
        kind = fixed (group (members_of (
            named (codes "A") (element 72 (Quantity (record { sign = Unsigned; num = 1; den = 0; unit = codes "s" }))) ∷ named (codes "B") (element 8 Octal) ∷ [])));
      }
      ∷ [];
  uap = Uap.Item (codes "010") ∷ Uap.Spare ∷ Uap.Item (codes "010") ∷ Uap.Item (codes "060") ∷ [];
}

abbrev pub flaw : FlawKind → List ℕ → Flaw
flaw kind path = record { kind = kind; path = path }

abbrev pub flaws_in_their_order : List Flaw
flaws_in_their_order =
    flaw NotOctets (codes "034/010") ∷ flaw DuplicateItem (codes "034/010") ∷ flaw BodyNotOctets (codes "034/010/body")
    ∷ flaw PartNotOctets (codes "034/030/part0") ∷ flaw BadWidth (codes "034/030/spare") ∷ flaw DuplicateName (codes "034/030/A")
    ∷ flaw Empty (codes "034/040/body") ∷ flaw BadWidth (codes "034/050/A") ∷ flaw BadScale (codes "034/050/A") ∷ flaw BadStringWidth (codes "034/050/B")
    ∷ flaw RepeatedInUap (codes "034/uap/010") ∷ flaw UnknownInUap (codes "034/uap/060") ∷ []
