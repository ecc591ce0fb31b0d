use Rattle.std.proofs.Common.{length}
use Rattle.ax_walk.proofs.PartSteps.{PartsFound}
use Rattle.ax_walk.proofs.members.find_part.Given as goal

abbrev pub invariant-loop-part : goal.invariant-loop-part
invariant-loop-part l = record { parts : PartsFound l.nodes l.last l.parts l.left l.body l.here l.index l.number }

abbrev pub decreases-loop-part : goal.decreases-loop-part
decreases-loop-part l = length l.left
