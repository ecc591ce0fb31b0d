use Rattle.std.proofs.Common.{length}
use Rattle.ax_format.specs.Canonical.{run_canon}
use Rattle.ax_format.specs.Plain.{fixed_tree, values_tree}
use Rattle.ax_values.proofs.WrittenRuns.{RunLeft}
use Rattle.ax_values.proofs.write_units.write_run.Given as goal

abbrev pub invariant-loop-value : goal.invariant-loop-value
invariant-loop-value l = RunLeft (fixed_tree l.fixed) l.fn.out l.out (run_canon (fixed_tree l.fixed) (values_tree l.values)) l.left

abbrev pub decreases-loop-value : goal.decreases-loop-value
decreases-loop-value l = length l.left
