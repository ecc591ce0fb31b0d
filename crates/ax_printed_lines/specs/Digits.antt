-- Numbers that are read digit by digit.
use Rattle.std.specs.Prelude.{◌≡◌, ℕ, ◌<◌, ◌≤◌, ◌^◌, List, ◌++◌, drop, get_or, decimal}

-- the number of the first k octets, which are digits; the first of several is 1 to 9
pub record DigitsRead (octets : List ℕ) (k n : ℕ) : Type 0 where
  pub read : 0 < k → (1 < k → 49 ≤ get_or octets 0 0) → octets ≡ decimal n ++ drop k octets
  pub some : 0 < k → 49 ≤ get_or octets 0 0 → 0 < n
  pub below : n < 10 ^ k
  pub first : 0 < k → 48 ≤ get_or octets 0 0
