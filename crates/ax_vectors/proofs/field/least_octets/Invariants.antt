use Rattle.std.proofs.Common.{length}
use Rattle.ax_vectors.proofs.FieldOctets.{LeastLeft}
use Rattle.ax_vectors.proofs.field.least_octets.Given as goal

abbrev pub invariant-loop-rest : goal.invariant-loop-rest
invariant-loop-rest l = LeastLeft l.marks l.rest l.count

abbrev pub decreases-loop-rest : goal.decreases-loop-rest
decreases-loop-rest l = length l.rest
