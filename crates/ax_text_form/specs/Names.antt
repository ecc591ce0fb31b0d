-- Specifications of which each name is a name: 1 to 16 letters A to Z and digits.
use Rattle.std.specs.List.{AllByRecursion}
use Rattle.ax_format.specs.Characters.{IsName}
use Rattle.ax_format.specs.Specification.{ItemTree, SpecTree}
use Rattle.ax_format.specs.Tree.{FixedTree, element, group, MembersTree, no_members, member_and, named, spare, KindTree, fixed, extended, counted, by_fx, explicit, compound, SlotsTree, no_slots, slot_and, spare_slot, subitem}

abbrev mutual
  pub FixedNamed : FixedTree → Type 0
  FixedNamed (element w c) = Unit {0}
  FixedNamed (group ms) = MembersNamed ms

  pub MembersNamed : MembersTree → Type 0
  MembersNamed no_members = Unit {0}
  MembersNamed (member_and (spare w) ms) = MembersNamed ms
  MembersNamed (member_and (named name f) ms) = IsName name × FixedNamed f × MembersNamed ms

abbrev mutual
  pub KindNamed : KindTree → Type 0
  KindNamed (fixed f) = FixedNamed f
  KindNamed (extended last ps) = AllByRecursion MembersNamed ps
  KindNamed (counted size k) = KindNamed k
  KindNamed (by_fx f) = FixedNamed f
  KindNamed explicit = Unit {0}
  KindNamed (compound ss) = SlotsNamed ss

  pub SlotsNamed : SlotsTree → Type 0
  SlotsNamed no_slots = Unit {0}
  SlotsNamed (slot_and spare_slot ss) = SlotsNamed ss
  SlotsNamed (slot_and (subitem name k) ss) = IsName name × KindNamed k × SlotsNamed ss

abbrev pub ItemNamed : ItemTree → Type 0
ItemNamed item = IsName item.name × KindNamed item.kind

pub record IsNamed (spec : SpecTree) : Type 0 where
  pub items : AllByRecursion ItemNamed spec.items
