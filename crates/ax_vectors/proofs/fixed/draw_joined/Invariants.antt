use Rattle.ax_vectors.proofs.Left.{JoinedLeft}
use Rattle.ax_vectors.proofs.fixed.draw_joined.Given as goal

abbrev pub invariant-loop-left : goal.invariant-loop-left
invariant-loop-left l = JoinedLeft l.count l.left l.number l.fn.draws l.draws

abbrev pub decreases-loop-left : goal.decreases-loop-left
decreases-loop-left l = l.left
