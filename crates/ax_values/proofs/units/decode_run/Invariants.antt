use Rattle.std.proofs.Common.{◌-◌, length}
use Rattle.ax_format.specs.Plain.{fixed_tree}
use Rattle.ax_values.proofs.Repeating.{RunSoFar}
use Rattle.ax_values.proofs.units.decode_run.Given as goal

abbrev pub invariant-loop-made : goal.invariant-loop-made
invariant-loop-made l = RunSoFar (fixed_tree l.fixed) l.body l.at l.here l.made

abbrev pub decreases-loop-made : goal.decreases-loop-made
decreases-loop-made l = length l.body - l.here
