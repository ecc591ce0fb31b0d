use Rattle.std.proofs.Common.{ℕ, ◌^◌, ◌<◌, ◌≤◌, arith}
use Rattle.std.proofs.Math.Pow.{pow_mono}
use Rattle.ax_printed_lines.proofs.pieces.is_below.Goals as goal

below : (n w : ℕ) → n < 2 ^ 64 → 64 ≤ w → n < 2 ^ w
below n w small wide = let high : 2 ^ 64 ≤ 2 ^ w = pow_mono wide in omega (arith, high, small)

pub returns-then-width-ge64 : goal.returns-then-width-ge64
returns-then-width-ge64 c = λ e. below _ _ (omega arith) (omega arith)
