use Rattle.std.proofs.Common.{length}
use Rattle.ax_vectors.proofs.Left.{PartsLeft}
use Rattle.ax_vectors.proofs.fixed.make_parts.Given as goal

abbrev pub invariant-loop-part : goal.invariant-loop-part
invariant-loop-part l = PartsLeft l.fn.last l.parts l.rest l.left l.count l.fn.into l.into l.fn.draws l.draws

abbrev pub decreases-loop-part : goal.decreases-loop-part
decreases-loop-part l = length l.rest
