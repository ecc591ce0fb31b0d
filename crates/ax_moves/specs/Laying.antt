-- Bits laid at the front of an output, which keeps those of the longest data block.
use Rattle.std.specs.Prelude.{◌≡◌, ℕ, ◌+◌, ◌*◌, ◌≤◌, min, List, ◌++◌, length, take}
use Rattle.ax_bits.specs.Bits.{bits}
use Rattle.ax_format.specs.Sizes.{longest_block}

-- the bits b, of n octets, stand at the front
pub record Begins (b : List ℕ) (n : ℕ) (output : List ℕ) : Type 0 where
  pub size : length b ≡ 8 * n
  pub laid : take (8 * n) (bits output) ≡ b

-- after `at` octets the bits b are laid, of whole octets, so that n octets were laid; past 65,535 octets they are counted and
-- not kept, and the greatest count that 32 bits hold stands for each greater one
pub record Lays (b : List ℕ) (at n : ℕ) (old new : List ℕ) : Type 0 where
  pub octets : ℕ
  pub size : length b ≡ 8 * octets
  pub counted : n ≡ min (at + octets) 4294967295
  pub laid : n ≤ longest_block → take (8 * n) (bits new) ≡ take (8 * at) (bits old) ++ b

-- after `at` octets the text is laid, so that n octets were laid; counted and kept as above
pub record Gathers (text : List ℕ) (at n : ℕ) (old new : List ℕ) : Type 0 where
  pub counted : n ≡ min (at + length text) 4294967295
  pub laid : n ≤ longest_block → take n new ≡ take at old ++ text
