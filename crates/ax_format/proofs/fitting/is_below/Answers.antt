use Rattle.std.proofs.Common.{◌≡◌, ℕ, ◌^◌, ◌<◌, ◌≤◌, true, nat_lt, arith}
use Rattle.std.proofs.Math.Pow.{pow_mono}
use Rattle.std.proofs.lemmas.Bool.Decides.{nat_tests}
use Rattle.ax_format.proofs.fitting.is_below.Goals as goal

below : (n w : ℕ) → n < 2 ^ 128 → 128 ≤ w → true ≡ nat_lt n (2 ^ w)
below n w small wide = let high : 2 ^ 128 ≤ 2 ^ w = pow_mono wide in grind (arith, nat_tests)

pub returns-then-width-ge128 : goal.returns-then-width-ge128
returns-then-width-ge128 c = below _ _ (omega arith) (omega arith)
