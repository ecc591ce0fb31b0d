use Rattle.std.proofs.Common.{◌≡◌, length, take}
use Rattle.ax_rescale.proofs.splitting.copies.Given as goal

abbrev pub invariant-loop-one : goal.invariant-loop-one
invariant-loop-one l = (length l.made ≡ l.one-index) × (l.made ≡ take l.one-index l.records)
