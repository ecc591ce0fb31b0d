use Rattle.std.proofs.Common.{length}
use Rattle.ax_check.proofs.places.+walk_fixed.Given as goal

abbrev pub decreases-walk_fixed : goal.decreases-walk_fixed
decreases-walk_fixed l = length l.names.now
