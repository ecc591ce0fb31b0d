-- The size of lists.
use Rattle.std.specs.Prelude.{ℕ}

-- a list has fewer members: their number has 32 bits
abbrev pub list_bound : ℕ
list_bound = 4294967296
