-- Kinds in which each quantity that is converted has 1 to 64 bits and no 0 in its scale, as in a specification without flaw.
-- Nothing is converted inside an extended kind.
use Rattle.std.specs.Prelude.{ℕ, ◌<◌, ◌≤◌}
use Rattle.ax_format.specs.Tree.{FixedTree, element, group, MembersTree, no_members, member_and, MemberTree, named, spare, KindTree, fixed, extended, counted, by_fx, explicit, compound, SlotsTree, no_slots, slot_and, SlotTree, spare_slot, subitem}
use Rattle.ax_format.specs.declared.content.Content.{Content}
use Rattle.ax_format.specs.declared.content.Content.TheVariants.{Quantity}

abbrev pub ContentScaled : ℕ → Content → Type 0
ContentScaled w (Quantity s) = (1 ≤ w) × (w ≤ 64) × (0 < s.num) × (0 < s.den)
ContentScaled w _ = Unit {0}

abbrev mutual
  pub FixedScaled : FixedTree → Type 0
  FixedScaled (element w c) = ContentScaled w c
  FixedScaled (group ms) = MembersScaled ms

  pub MemberScaled : MemberTree → Type 0
  MemberScaled (named name f) = FixedScaled f
  MemberScaled (spare w) = Unit {0}

  pub MembersScaled : MembersTree → Type 0
  MembersScaled no_members = Unit {0}
  MembersScaled (member_and m ms) = MemberScaled m × MembersScaled ms

abbrev mutual
  pub Scaled : KindTree → Type 0
  Scaled (fixed f) = FixedScaled f
  Scaled (extended last ps) = Unit {0}
  Scaled (counted size k) = Scaled k
  Scaled (by_fx f) = FixedScaled f
  Scaled explicit = Unit {0}
  Scaled (compound ss) = SlotsScaled ss

  pub SlotScaled : SlotTree → Type 0
  SlotScaled spare_slot = Unit {0}
  SlotScaled (subitem name k) = Scaled k

  pub SlotsScaled : SlotsTree → Type 0
  SlotsScaled no_slots = Unit {0}
  SlotsScaled (slot_and s ss) = SlotScaled s × SlotsScaled ss
