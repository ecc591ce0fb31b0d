use Rattle.ax_vectors.proofs.Left.{Left}
use Rattle.ax_vectors.specs.Made.{octet_made}
use Rattle.ax_vectors.specs.Making.{times}
use Rattle.ax_vectors.proofs.kinds.make_octets.Given as goal

abbrev pub invariant-loop-left : goal.invariant-loop-left
invariant-loop-left l = Left (times l.count octet_made) (times l.left octet_made) l.fn.into l.into l.fn.draws l.draws

abbrev pub decreases-loop-left : goal.decreases-loop-left
decreases-loop-left l = l.left
