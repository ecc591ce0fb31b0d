use Rattle.std.proofs.Common.{◌≡◌, ◌<◌, ◌++◌, length, drop}
use Rattle.ax_rescale.specs.Splits.{AreThere, pieces_of}
use Rattle.ax_rescale.proofs.splitting.cut.Given as goal

abbrev pub invariant-loop-count : goal.invariant-loop-count
invariant-loop-count l =
    (length l.pieces ≡ l.count-index) × (l.pieces ++ pieces_of l.category (drop l.count-index l.counts) l.rest ≡ pieces_of l.category l.counts l.records) × AreThere (drop l.count-index l.counts) l.rest × (length l.rest < 4294967296)
