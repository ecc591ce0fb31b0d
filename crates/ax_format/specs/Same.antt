-- Which kinds of two editions are the same (this project's own rule): those that are equal once each table is emptied of
-- its entries. Titles stand outside of kinds.
use Rattle.std.specs.Prelude.{◌≡◌, ℕ, suc, ◌==◌, Bool, true, false, ◌&&◌, if◌then◌else◌, bytes_eq, List, [], ◌∷◌, map}
use Rattle.ax_format.specs.Tree.{FixedTree, element, group, MembersTree, no_members, member_and, MemberTree, named, spare, KindTree, fixed, extended, counted, by_fx, explicit, compound, SlotsTree, no_slots, slot_and, SlotTree, spare_slot, subitem}
use Rattle.ax_format.specs.declared.content.Content.{Content}
use Rattle.ax_format.specs.declared.content.Content.TheVariants.{Raw, Table, Ascii, Icao, Octal, Integer, Quantity}
use Rattle.ax_format.specs.declared.content.Sign.{Sign}
use Rattle.ax_format.specs.declared.content.Sign.TheVariants.{Unsigned, Signed}
use Rattle.ax_format.specs.declared.kind.Counter.{Counter}
use Rattle.ax_format.specs.declared.kind.Counter.TheVariants.{One, Two}
use Rattle.ax_format.specs.declared.kind.LastPart.{LastPart}
use Rattle.ax_format.specs.declared.kind.LastPart.TheVariants.{WithFx, WithoutFx}

abbrev pub emptied_content : Content → Content
emptied_content (Table entries) = Table []
emptied_content c = c

abbrev mutual
  pub emptied_fixed : FixedTree → FixedTree
  emptied_fixed (element w c) = element w (emptied_content c)
  emptied_fixed (group ms) = group (emptied_members ms)

  pub emptied_members : MembersTree → MembersTree
  emptied_members no_members = no_members
  emptied_members (member_and (named name f) ms) = member_and (named name (emptied_fixed f)) (emptied_members ms)
  emptied_members (member_and (spare w) ms) = member_and (spare w) (emptied_members ms)

abbrev mutual
  -- the kind with each table emptied
  pub emptied : KindTree → KindTree
  emptied (fixed f) = fixed (emptied_fixed f)
  emptied (extended last ps) = extended last (map emptied_members ps)
  emptied (counted size k) = counted size (emptied k)
  emptied (by_fx f) = by_fx (emptied_fixed f)
  emptied explicit = explicit
  emptied (compound ss) = compound (emptied_slots ss)

  pub emptied_slots : SlotsTree → SlotsTree
  emptied_slots no_slots = no_slots
  emptied_slots (slot_and spare_slot ss) = slot_and spare_slot (emptied_slots ss)
  emptied_slots (slot_and (subitem name k) ss) = slot_and (subitem name (emptied k)) (emptied_slots ss)

abbrev pub Same : KindTree → KindTree → Type 0
Same k l = emptied k ≡ emptied l

-- ---- the same as a test that computes, along both kinds

abbrev pub is_same_sign : Sign → Sign → Bool
is_same_sign Unsigned Unsigned = true
is_same_sign Signed Signed = true
is_same_sign _ _ = false

-- a scale is its sign, its two numbers and its unit; 1/4 and 2/8 are two scales
abbrev pub is_same_content : Content → Content → Bool
is_same_content Raw Raw = true
is_same_content (Table s) (Table t) = true
is_same_content Ascii Ascii = true
is_same_content Icao Icao = true
is_same_content Octal Octal = true
is_same_content (Integer s) (Integer t) = is_same_sign s t
is_same_content (Quantity s) (Quantity t) = is_same_sign s.sign t.sign && (s.num == t.num && (s.den == t.den && bytes_eq s.unit t.unit))
is_same_content _ _ = false

abbrev mutual
  pub is_same_fixed : FixedTree → FixedTree → Bool
  is_same_fixed (element w c) (element u d) = w == u && is_same_content c d
  is_same_fixed (group ms) (group ns) = are_same_members ms ns
  is_same_fixed _ _ = false

  pub is_same_member : MemberTree → MemberTree → Bool
  is_same_member (named name f) (named other g) = bytes_eq name other && is_same_fixed f g
  is_same_member (spare w) (spare u) = w == u
  is_same_member _ _ = false

  pub are_same_members : MembersTree → MembersTree → Bool
  are_same_members no_members no_members = true
  are_same_members (member_and m ms) (member_and n ns) = is_same_member m n && are_same_members ms ns
  are_same_members _ _ = false

abbrev pub are_same_parts : List MembersTree → List MembersTree → Bool
are_same_parts [] [] = true
are_same_parts (p ∷ ps) (q ∷ qs) = are_same_members p q && are_same_parts ps qs
are_same_parts _ _ = false

abbrev pub is_same_last : LastPart → LastPart → Bool
is_same_last WithFx WithFx = true
is_same_last WithoutFx WithoutFx = true
is_same_last _ _ = false

abbrev pub is_same_counter : Counter → Counter → Bool
is_same_counter One One = true
is_same_counter Two Two = true
is_same_counter _ _ = false

abbrev mutual
  pub is_same : KindTree → KindTree → Bool
  is_same (fixed f) (fixed g) = is_same_fixed f g
  is_same (extended last ps) (extended other qs) = is_same_last last other && are_same_parts ps qs
  is_same (counted size k) (counted other l) = is_same_counter size other && is_same k l
  is_same (by_fx f) (by_fx g) = is_same_fixed f g
  is_same explicit explicit = true
  is_same (compound ss) (compound ts) = are_same_slots ss ts
  is_same _ _ = false

  pub is_same_slot : SlotTree → SlotTree → Bool
  is_same_slot spare_slot spare_slot = true
  is_same_slot (subitem name k) (subitem other l) = bytes_eq name other && is_same k l
  is_same_slot _ _ = false

  pub are_same_slots : SlotsTree → SlotsTree → Bool
  are_same_slots no_slots no_slots = true
  are_same_slots (slot_and s ss) (slot_and t ts) = is_same_slot s t && are_same_slots ss ts
  are_same_slots _ _ = false

-- ---- extended items

-- how many first parts of the one have the same members as those of the other
abbrev pub common : List MembersTree → List MembersTree → ℕ
common (p ∷ ps) (q ∷ qs) = if are_same_members p q then suc (common ps qs) else 0
common _ _ = 0

-- the number of first parts that two kinds have in common
abbrev pub common_parts : KindTree → KindTree → ℕ
common_parts (extended last ps) (extended other qs) = common ps qs
common_parts _ _ = 0
