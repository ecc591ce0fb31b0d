-- Kinds of which each value's lines can be shown, as those of a specification without flaw: numbers of at most 128 bits, and
-- quantities of at most 64 with a denominator.
use Rattle.std.specs.Prelude.{ℕ, ◌<◌, ◌≤◌}
use Rattle.std.specs.List.{AllByRecursion}
use Rattle.ax_format.specs.InBounds.{IsWidth}
use Rattle.ax_format.specs.Tree.{FixedTree, element, group, MemberTree, MembersTree, no_members, member_and, named, spare, KindTree, fixed, extended, counted, by_fx, explicit, compound, SlotTree, SlotsTree, no_slots, slot_and, spare_slot, subitem}
use Rattle.ax_format.specs.declared.content.Content.{Content}
use Rattle.ax_format.specs.declared.content.Content.TheVariants.{Quantity}

abbrev pub ContentListable : ℕ → Content → Type 0
ContentListable w (Quantity scale) = (w ≤ 64) × (0 < scale.den)
ContentListable w _ = Unit {0}

abbrev mutual
  pub FixedListable : FixedTree → Type 0
  FixedListable (element w c) = IsWidth w × ContentListable w c
  FixedListable (group ms) = MembersListable ms

  pub MemberListable : MemberTree → Type 0
  MemberListable (named name f) = FixedListable f
  MemberListable (spare w) = Unit {0}

  pub MembersListable : MembersTree → Type 0
  MembersListable no_members = Unit {0}
  MembersListable (member_and m ms) = MemberListable m × MembersListable ms

abbrev mutual
  pub KindListable : KindTree → Type 0
  KindListable (fixed f) = FixedListable f
  KindListable (extended last ps) = AllByRecursion MembersListable ps
  KindListable (counted size k) = KindListable k
  KindListable (by_fx f) = FixedListable f
  KindListable explicit = Unit {0}
  KindListable (compound ss) = SlotsListable ss

  pub SlotListable : SlotTree → Type 0
  SlotListable spare_slot = Unit {0}
  SlotListable (subitem name k) = KindListable k

  pub SlotsListable : SlotsTree → Type 0
  SlotsListable no_slots = Unit {0}
  SlotsListable (slot_and s ss) = SlotListable s × SlotsListable ss
