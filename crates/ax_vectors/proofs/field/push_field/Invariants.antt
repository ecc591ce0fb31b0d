use Rattle.ax_vectors.proofs.FieldOctets.{FieldLeft}
use Rattle.ax_vectors.proofs.field.push_field.Given as goal

abbrev pub invariant-loop-left : goal.invariant-loop-left
invariant-loop-left l = FieldLeft l.count l.marks l.left l.rest l.fn.into l.into

abbrev pub decreases-loop-left : goal.decreases-loop-left
decreases-loop-left l = l.left
