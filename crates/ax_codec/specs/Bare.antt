-- Specifications with names and contents set aside, and the tables that stand for them.
use Rattle.std.specs.Prelude.{◌≡◌, ℕ, List, [], map}
use Rattle.ax_format.specs.Flaws.{NoFlaw}
use Rattle.ax_format.specs.Specification.{SpecTree}
use Rattle.ax_format.specs.Tree.{FixedTree, element, group, MembersTree, no_members, member_and, MemberTree, named, spare, KindTree, fixed, extended, counted, by_fx, explicit, compound, SlotsTree, no_slots, slot_and, SlotTree, spare_slot, subitem}
use Rattle.ax_format.specs.declared.content.Content.TheVariants.{Raw}
use Rattle.ax_codec.specs.Meaning.{meanings, linked_slots}
use Rattle.ax_codec.specs.declared.node.Node.{Node}
use Rattle.ax_fspec.specs.Reading.{record_slot_list}

abbrev mutual
  pub bare_fixed : FixedTree → FixedTree
  bare_fixed (element w c) = element w Raw
  bare_fixed (group ms) = group (bare_members ms)

  -- spare bits are an element without a name
  pub bare_members : MembersTree → MembersTree
  bare_members no_members = no_members
  bare_members (member_and (named name f) ms) = member_and (named [] (bare_fixed f)) (bare_members ms)
  bare_members (member_and (spare w) ms) = member_and (named [] (element w Raw)) (bare_members ms)

abbrev pub bare_of_member : MemberTree → FixedTree
bare_of_member (named name f) = bare_fixed f
bare_of_member (spare w) = element w Raw

abbrev pub bare_member : MemberTree → MemberTree
bare_member m = named [] (bare_of_member m)

abbrev mutual
  pub bare_kind : KindTree → KindTree
  bare_kind (fixed f) = fixed (bare_fixed f)
  bare_kind (extended last ps) = extended last (map bare_members ps)
  bare_kind (counted size k) = counted size (bare_kind k)
  bare_kind (by_fx f) = by_fx (bare_fixed f)
  bare_kind explicit = explicit
  bare_kind (compound ss) = compound (bare_slots ss)

  pub bare_slots : SlotsTree → SlotsTree
  bare_slots no_slots = no_slots
  bare_slots (slot_and spare_slot ss) = slot_and spare_slot (bare_slots ss)
  bare_slots (slot_and (subitem name k) ss) = slot_and (subitem [] (bare_kind k)) (bare_slots ss)

abbrev pub bare_slot : SlotTree → SlotTree
bare_slot spare_slot = spare_slot
bare_slot (subitem name k) = subitem [] (bare_kind k)

-- a table of this category, whose records have these links, stands for the specification: the category is the
-- specification's, and there is one link for each slot of the user application profile (UAP), which leads to the kind of
-- the slot of that number, names and contents set aside; a spare slot has the link 0
pub record IsTableFor (number : ℕ) (links : List ℕ) (table : List Node) (spec : SpecTree) : Type 0 where
  pub category : number ≡ spec.category
  pub slots : linked_slots (meanings table) links ≡ map bare_slot (record_slot_list spec)

-- it stands for some specification without flaw
abbrev pub StandsForSome : ℕ → List ℕ → List Node → Type 0
StandsForSome number links table = ∥ ((spec : SpecTree) × NoFlaw spec × IsTableFor number links table spec) ∥₁
