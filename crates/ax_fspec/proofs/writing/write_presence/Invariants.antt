use Rattle.std.proofs.Common.{◌-◌}
use Rattle.ax_fspec.proofs.FieldsWritten.{WrittenSoFar}
use Rattle.ax_fspec.proofs.writing.write_presence.Given as goal

abbrev pub invariant-loop-out : goal.invariant-loop-out
invariant-loop-out l = WrittenSoFar l.fn.out l.out l.marked l.octet

abbrev pub decreases-loop-out : goal.decreases-loop-out
decreases-loop-out l = 18 - l.octet
