use Rattle.std.proofs.Common.{length}
use Rattle.ax_walk.proofs.spot.+spot_within.Given as goal

abbrev pub decreases-spot_within : goal.decreases-spot_within
decreases-spot_within l = length l.steps.now
