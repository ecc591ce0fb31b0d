use Rattle.std.proofs.Common.{◌≡◌, length}
use Rattle.ax_format.specs.Plain.{spec_tree}
use Rattle.ax_trial.proofs.Sums.{SoFar}
use Rattle.ax_trial.proofs.trial.totals_of.Given as goal

abbrev pub invariant-loop-left : goal.invariant-loop-left
invariant-loop-left l = SoFar (spec_tree l.accepted) l.fn.blocks.seed l.fn.blocks.count l.left l.totals l.draws × (length l.output ≡ 65535)

abbrev pub decreases-loop-left : goal.decreases-loop-left
decreases-loop-left l = l.left
