use Rattle.ax_format.specs.Plain.{fixed_tree}
use Rattle.ax_vectors.proofs.Left.{Left}
use Rattle.ax_vectors.specs.Made.{run_made}
use Rattle.ax_vectors.proofs.fixed.make_run.Given as goal

abbrev pub invariant-loop-left : goal.invariant-loop-left
invariant-loop-left l = Left (run_made l.count (fixed_tree l.fixed)) (run_made l.left (fixed_tree l.fixed)) l.fn.into l.into l.fn.draws l.draws

abbrev pub decreases-loop-left : goal.decreases-loop-left
decreases-loop-left l = l.left
