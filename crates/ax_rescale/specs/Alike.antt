-- Which kinds have values that can be converted one to the other (this project's own rule): those that are the same once the
-- width and the scale of each quantity that is converted are set aside, but for its unit.
use Rattle.std.specs.Prelude.{◌≡◌, Bool, true, false, ◌&&◌}
use Rattle.ax_format.specs.Same.{Same, is_same}
use Rattle.ax_format.specs.Tree.{FixedTree, element, group, MembersTree, no_members, member_and, MemberTree, named, spare, KindTree, fixed, extended, counted, by_fx, explicit, compound, SlotsTree, no_slots, slot_and, SlotTree, spare_slot, subitem}
use Rattle.ax_format.specs.declared.content.Content.TheVariants.{Quantity}
use Rattle.ax_format.specs.declared.content.Sign.TheVariants.{Unsigned}

abbrev mutual
  pub unscaled_fixed : FixedTree → FixedTree
  unscaled_fixed (element w (Quantity s)) = element 0 (Quantity (record { sign = Unsigned; num = 0; den = 0; unit = s.unit }))
  unscaled_fixed (element w c) = element w c
  unscaled_fixed (group ms) = group (unscaled_members ms)

  pub unscaled_member : MemberTree → MemberTree
  unscaled_member (named name f) = named name (unscaled_fixed f)
  unscaled_member (spare w) = spare w

  pub unscaled_members : MembersTree → MembersTree
  unscaled_members no_members = no_members
  unscaled_members (member_and m ms) = member_and (unscaled_member m) (unscaled_members ms)

abbrev mutual
  -- the kind with the width, the sign and the two numbers of each quantity set aside; inside an extended kind nothing is
  pub unscaled : KindTree → KindTree
  unscaled (fixed f) = fixed (unscaled_fixed f)
  unscaled (extended last ps) = extended last ps
  unscaled (counted size k) = counted size (unscaled k)
  unscaled (by_fx f) = by_fx (unscaled_fixed f)
  unscaled explicit = explicit
  unscaled (compound ss) = compound (unscaled_slots ss)

  pub unscaled_slot : SlotTree → SlotTree
  unscaled_slot spare_slot = spare_slot
  unscaled_slot (subitem name k) = subitem name (unscaled k)

  pub unscaled_slots : SlotsTree → SlotsTree
  unscaled_slots no_slots = no_slots
  unscaled_slots (slot_and s ss) = slot_and (unscaled_slot s) (unscaled_slots ss)

-- no compound and no extended kind, whose values migrate by their subitems and parts
abbrev pub is_plain : KindTree → Bool
is_plain (compound ss) = false
is_plain (extended last ps) = false
is_plain k = true

pub record Alike (old new : KindTree) : Type 0 where
  pub old_plain : is_plain old ≡ true
  pub new_plain : is_plain new ≡ true
  pub same : Same (unscaled old) (unscaled new)

-- the same as a test that computes
abbrev pub is_alike : KindTree → KindTree → Bool
is_alike k l = is_plain k && (is_plain l && is_same (unscaled k) (unscaled l))
