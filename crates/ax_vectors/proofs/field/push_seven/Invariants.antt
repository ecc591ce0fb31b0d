use Rattle.std.proofs.Common.{◌≡◌, ◌++◌}
use Rattle.ax_format.specs.Presence.{marks_upto}
use Rattle.ax_vectors.proofs.field.push_seven.Given as goal

abbrev pub invariant-loop-place : goal.invariant-loop-place
invariant-loop-place l = l.into ≡ l.fn.into ++ marks_upto l.place l.marks
