use Rattle.std.proofs.Common.{length}
use Rattle.ax_filter.proofs.standing.+in_value.Given as goal

abbrev pub decreases-in_value : goal.decreases-in_value
decreases-in_value l = length l.steps.now
