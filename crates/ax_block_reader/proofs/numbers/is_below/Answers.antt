use Rattle.std.proofs.Common.{ℕ, ◌^◌, ◌<◌, ◌≤◌, refl, arith}
use Rattle.std.proofs.Math.Pow.{pow_mono}
use Rattle.ax_block_reader.proofs.numbers.is_below.Goals as goal

below : (n w : ℕ) → n < 2 ^ 128 → 128 ≤ w → n < 2 ^ w
below n w small wide = let high : 2 ^ 128 ≤ 2 ^ w = pow_mono wide in omega (arith, high, small)

pub returns-then-width-ge128 : goal.returns-then-width-ge128
returns-then-width-ge128 c = (λ e. below _ _ (omega arith) (omega arith), λ lt. refl)
