use Rattle.std.proofs.Common.{length}
use Rattle.ax_moves.proofs.RunSteps.{LostSoFar}
use Rattle.ax_moves.proofs.lost.lost_keys.Given as goal

abbrev pub invariant-loop-path : goal.invariant-loop-path
invariant-loop-path l = LostSoFar l.paths l.left l.made.items

abbrev pub decreases-loop-path : goal.decreases-loop-path
decreases-loop-path l = length l.left
