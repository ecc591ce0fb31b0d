use Rattle.std.proofs.Common.{length}
use Rattle.ax_check.proofs.elements.+element_in_fixed.Given as goal

abbrev pub decreases-element_in_fixed : goal.decreases-element_in_fixed
decreases-element_in_fixed l = length l.steps.now
