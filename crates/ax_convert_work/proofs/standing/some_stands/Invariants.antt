use Rattle.std.proofs.Common.{length}
use Rattle.ax_convert_work.proofs.StandingValues.{StandsLater}
use Rattle.ax_convert_work.proofs.standing.some_stands.Given as goal
use Rattle.ax_walk.specs.Left.{records_left}

abbrev pub invariant-loop-one : goal.invariant-loop-one
invariant-loop-one l = StandsLater l.slots l.view.codec.now l.view.body.now (records_left l.later)

abbrev pub decreases-loop-one : goal.decreases-loop-one
decreases-loop-one l = length (records_left l.later)
