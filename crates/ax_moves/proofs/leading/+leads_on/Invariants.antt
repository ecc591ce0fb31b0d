use Rattle.std.proofs.Common.{length}
use Rattle.ax_moves.proofs.leading.+leads_on.Given as goal

-- proposed from what the function passes where it calls itself
abbrev pub decreases-leads_on : goal.decreases-leads_on
decreases-leads_on l = length l.steps.now
