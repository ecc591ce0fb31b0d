-- Widths in bits (field kinds).
use Rattle.std.specs.Prelude.{ℕ, zero, suc, ◌+◌}
use Rattle.ax_format.specs.Tree.{FixedTree, element, group, MembersTree, no_members, member_and, MemberTree, named, spare}
use Rattle.ax_format.specs.declared.kind.Counter.{Counter}
use Rattle.ax_format.specs.declared.kind.Counter.TheVariants.{One, Two}
use Rattle.ax_format.specs.declared.kind.LastPart.{LastPart}
use Rattle.ax_format.specs.declared.kind.LastPart.TheVariants.{WithFx, WithoutFx}

-- ---- counters

abbrev pub counter_octets : Counter → ℕ
counter_octets One = 1
counter_octets Two = 2

abbrev pub counter_width : Counter → ℕ
counter_width One = 8
counter_width Two = 16

-- ---- FX

-- of a part after which the kind has so many others: each has an FX bit, but the last where that has none
abbrev pub fx_width : LastPart → ℕ → ℕ
fx_width last (suc n) = 1
fx_width WithFx zero = 1
fx_width WithoutFx zero = 0

-- ---- fixed kinds

abbrev mutual
  -- an element's number of bits; a group is as wide as its members together
  pub width : FixedTree → ℕ
  width (element w c) = w
  width (group ms) = members_width ms

  -- of a group, and of a part without its FX bit
  pub members_width : MembersTree → ℕ
  members_width no_members = 0
  members_width (member_and (named name f) ms) = width f + members_width ms
  members_width (member_and (spare w) ms) = w + members_width ms

abbrev pub member_width : MemberTree → ℕ
member_width (named name f) = width f
member_width (spare w) = w
