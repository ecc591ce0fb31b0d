-- Limits on what is taken from the outside.
use Rattle.std.specs.Prelude.{ℕ, ◌^◌}

-- the most octets of an input
abbrev pub longest_input : ℕ
longest_input = 2 ^ 40
