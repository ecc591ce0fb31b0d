-- The spelling of the first parts of a value, by that of all.
use Rattle.std.specs.Prelude.{ℕ, zero, suc, ◌+◌, ◌-◌, List, [], ◌∷◌, ◌++◌, take}
use Rattle.ax_format.specs.Tree.{MembersTree}
use Rattle.ax_format.specs.Widths.{members_width}

-- the bits of the first parts, each with its FX bit
abbrev pub first_bits : ℕ → List MembersTree → ℕ
first_bits zero ps = 0
first_bits (suc n) [] = 0
first_bits (suc n) (p ∷ ps) = members_width p + 1 + first_bits n ps

-- so many bits, the last of them 0
abbrev pub cut_after : ℕ → List ℕ → List ℕ
cut_after n b = take (n - 1) b ++ 0 ∷ []
