-- Bounds on widths and counts, at every depth, that a specification without flaw keeps.
use Rattle.std.specs.Prelude.{◌≡◌, ℕ, ◌+◌, ◌%◌, ◌<◌, ◌≤◌, List, [], ◌∷◌, length}
use Rattle.ax_format.specs.Tree.{FixedTree, element, group, MembersTree, no_members, member_and, named, spare, KindTree, fixed, extended, counted, by_fx, explicit, compound, SlotsTree, no_slots, slot_and, spare_slot, subitem, slot_count}
use Rattle.ax_format.specs.Widths.{width, members_width, fx_width}
use Rattle.ax_format.specs.declared.kind.LastPart.{LastPart}

-- an element or a spare has 1 to 128 bits
abbrev pub IsWidth : ℕ → Type 0
IsWidth w = (0 < w) × (w ≤ 128)

abbrev mutual
  pub FixedInBounds : FixedTree → Type 0
  FixedInBounds (element w c) = IsWidth w
  FixedInBounds (group ms) = MembersInBounds ms

  pub MembersInBounds : MembersTree → Type 0
  MembersInBounds no_members = Unit {0}
  MembersInBounds (member_and (named name f) ms) = FixedInBounds f × MembersInBounds ms
  MembersInBounds (member_and (spare w) ms) = IsWidth w × MembersInBounds ms

-- whole octets, with so many FX bits too, one or more, and no wider than the longest body
abbrev pub PartInBounds : ℕ → MembersTree → Type 0
PartInBounds fx p = ((members_width p + fx) % 8 ≡ 0) × (members_width p ≤ 524256) × MembersInBounds p × (0 < members_width p + fx)

abbrev pub PartsInBounds : LastPart → List MembersTree → Type 0
PartsInBounds last [] = Unit {0}
PartsInBounds last (p ∷ ps) = PartInBounds (fx_width last (length ps)) p × PartsInBounds last ps

abbrev mutual
  pub InBounds : KindTree → Type 0
  InBounds (fixed f) = (width f % 8 ≡ 0) × (width f ≤ 524256) × FixedInBounds f
  InBounds (extended last ps) = (0 < length ps) × PartsInBounds last ps
  InBounds (counted size k) = InBounds k
  InBounds (by_fx f) = ((width f + 1) % 8 ≡ 0) × (width f ≤ 524256) × FixedInBounds f
  InBounds explicit = Unit {0}
  InBounds (compound ss) = (0 < slot_count ss) × (slot_count ss ≤ 126) × SlotsInBounds ss

  pub SlotsInBounds : SlotsTree → Type 0
  SlotsInBounds no_slots = Unit {0}
  SlotsInBounds (slot_and spare_slot ss) = SlotsInBounds ss
  SlotsInBounds (slot_and (subitem name k) ss) = InBounds k × SlotsInBounds ss
