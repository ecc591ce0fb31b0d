-- The trees that a file can spell.
use Rattle.std.specs.Prelude.{ℕ, ◌^◌, ◌<◌, List, length}
use Rattle.std.specs.List.{AllByRecursion}
use Rattle.ax_format.specs.Characters.{IsName, IsTextOctet}
use Rattle.ax_format.specs.Specification.{ItemTree, SpecTree}
use Rattle.ax_format.specs.Tree.{FixedTree, element, group, MemberTree, named, spare, MembersTree, no_members, member_and, KindTree, fixed, extended, counted, by_fx, explicit, compound, SlotTree, spare_slot, subitem, SlotsTree, no_slots, slot_and}
use Rattle.ax_format.specs.declared.content.Content.{Content}
use Rattle.ax_format.specs.declared.content.Content.TheVariants.{Raw, Table, Ascii, Icao, Octal, Integer, Quantity}
use Rattle.ax_format.specs.declared.content.TableText.{TableText}
use Rattle.ax_format.specs.declared.spec.UapSlot.{UapSlot}
use Rattle.ax_format.specs.declared.spec.UapSlot.TheVariants as Uap

-- fewer than 2^32 octets that may stand in a text
abbrev pub IsText : List ℕ → Type 0
IsText text = (length text < 2 ^ 32) × AllByRecursion IsTextOctet text

-- a width has at most nine digits
abbrev pub IsWidth : ℕ → Type 0
IsWidth width = width < 10 ^ 9

-- a number of a scale or of a table has at most 18
abbrev pub IsNumber : ℕ → Type 0
IsNumber number = number < 10 ^ 18

-- an entry of a table
abbrev pub EntryInRange : TableText → Type 0
EntryInRange entry = IsNumber entry.number × IsText entry.text

-- the numbers and texts of a content
abbrev pub ContentInRange : Content → Type 0
ContentInRange Raw = Unit {0}
ContentInRange (Table entries) = AllByRecursion EntryInRange entries
ContentInRange Ascii = Unit {0}
ContentInRange Icao = Unit {0}
ContentInRange Octal = Unit {0}
ContentInRange (Integer sign) = Unit {0}
ContentInRange (Quantity scale) = IsNumber scale.num × IsNumber scale.den × IsText scale.unit

abbrev mutual
  -- a fixed kind
  pub FixedInRange : FixedTree → Type 0
  FixedInRange (element width content) = IsWidth width × ContentInRange content
  FixedInRange (group members) = MembersInRange members

  -- a member
  pub MemberInRange : MemberTree → Type 0
  MemberInRange (named name kind) = IsName name × FixedInRange kind
  MemberInRange (spare width) = IsWidth width

  -- each member
  pub MembersInRange : MembersTree → Type 0
  MembersInRange no_members = Unit {0}
  MembersInRange (member_and member members) = MemberInRange member × MembersInRange members

abbrev mutual
  -- a kind
  pub KindInRange : KindTree → Type 0
  KindInRange (fixed kind) = FixedInRange kind
  KindInRange (extended last parts) = AllByRecursion MembersInRange parts
  KindInRange (counted size kind) = KindInRange kind
  KindInRange (by_fx kind) = FixedInRange kind
  KindInRange explicit = Unit {0}
  KindInRange (compound slots) = SlotsInRange slots

  -- a slot of a compound
  pub SlotInRange : SlotTree → Type 0
  SlotInRange spare_slot = Unit {0}
  SlotInRange (subitem name kind) = IsName name × KindInRange kind

  -- each slot
  pub SlotsInRange : SlotsTree → Type 0
  SlotsInRange no_slots = Unit {0}
  SlotsInRange (slot_and slot slots) = SlotInRange slot × SlotsInRange slots

-- an item
abbrev pub ItemInRange : ItemTree → Type 0
ItemInRange item = IsName item.name × IsText item.title × KindInRange item.kind

-- a slot of the UAP
abbrev pub UapSlotInRange : UapSlot → Type 0
UapSlotInRange Uap.Spare = Unit {0}
UapSlotInRange (Uap.Item name) = IsName name

-- names are names, texts are texts, and the numbers have the digits that the grammar leaves them
pub record InRange (spec : SpecTree) : Type 0 where
  pub category : spec.category < 256
  pub edition : IsText spec.edition
  pub items : AllByRecursion ItemInRange spec.items
  pub uap : AllByRecursion UapSlotInRange spec.uap

-- ---- numbers alone: names and texts are in range by their types

-- the numbers of a content
abbrev pub NumbersFit : Content → Type 0
NumbersFit Raw = Unit {0}
NumbersFit (Table entries) = AllByRecursion (λ entry. IsNumber entry.number) entries
NumbersFit Ascii = Unit {0}
NumbersFit Icao = Unit {0}
NumbersFit Octal = Unit {0}
NumbersFit (Integer sign) = Unit {0}
NumbersFit (Quantity scale) = IsNumber scale.num × IsNumber scale.den

abbrev mutual
  -- the widths and numbers of a fixed kind
  pub FixedNumbersFit : FixedTree → Type 0
  FixedNumbersFit (element width content) = IsWidth width × NumbersFit content
  FixedNumbersFit (group members) = MembersNumbersFit members

  -- those of a member
  pub MemberNumbersFit : MemberTree → Type 0
  MemberNumbersFit (named name kind) = FixedNumbersFit kind
  MemberNumbersFit (spare width) = IsWidth width

  -- those of each member
  pub MembersNumbersFit : MembersTree → Type 0
  MembersNumbersFit no_members = Unit {0}
  MembersNumbersFit (member_and member members) = MemberNumbersFit member × MembersNumbersFit members

abbrev mutual
  -- those of a kind
  pub KindNumbersFit : KindTree → Type 0
  KindNumbersFit (fixed kind) = FixedNumbersFit kind
  KindNumbersFit (extended last parts) = AllByRecursion MembersNumbersFit parts
  KindNumbersFit (counted size kind) = KindNumbersFit kind
  KindNumbersFit (by_fx kind) = FixedNumbersFit kind
  KindNumbersFit explicit = Unit {0}
  KindNumbersFit (compound slots) = SlotsNumbersFit slots

  -- those of a slot
  pub SlotNumbersFit : SlotTree → Type 0
  SlotNumbersFit spare_slot = Unit {0}
  SlotNumbersFit (subitem name kind) = KindNumbersFit kind

  -- those of each slot
  pub SlotsNumbersFit : SlotsTree → Type 0
  SlotsNumbersFit no_slots = Unit {0}
  SlotsNumbersFit (slot_and slot slots) = SlotNumbersFit slot × SlotsNumbersFit slots

-- every width is below 10^9, and every number of a scale or a table below 10^18
abbrev pub AreNumbersInRange : SpecTree → Type 0
AreNumbersInRange spec = AllByRecursion (λ item. KindNumbersFit item.kind) spec.items
