-- Categories in three digits.
use Rattle.std.proofs.Common.{◌≡◌, ℕ, ◌<◌, List, length, ap}
use Rattle.ax_format.specs.Paths.{three_digits}

pub no_three : (text : List ℕ) → (length text ≡ 3 → ⊥) → (n : ℕ) → n < 256 → text ≡ three_digits n → ⊥
no_three text none n lt e = none (ap length e)

pub ruleset categories = no_three
