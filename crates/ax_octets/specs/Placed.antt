-- What was written at a place of a buffer.
use Rattle.std.specs.Prelude.{◌≡◌, ℕ, ◌+◌, ◌/◌, ◌%◌, List, [], ◌∷◌, ◌++◌, length, take}

-- new has xs after the first `at` octets of old, up to `end`
pub record Placed (old new : List ℕ) (at : ℕ) (xs : List ℕ) (end : ℕ) : Type 0 where
  pub bytes : take end new ≡ take at old ++ xs
  pub moved : end ≡ at + length xs
  pub len : length new ≡ length old

-- the two digits of a number below 100
abbrev pub two_last : ℕ → List ℕ
two_last n = (48 + n / 10) ∷ (48 + n % 10) ∷ []

-- the three digits of a number below 1000
abbrev pub three_last : ℕ → List ℕ
three_last n = (48 + n / 100) ∷ two_last (n % 100)
