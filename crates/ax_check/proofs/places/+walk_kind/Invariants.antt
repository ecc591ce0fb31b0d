use Rattle.std.proofs.Common.{length}
use Rattle.ax_check.proofs.places.+walk_kind.Given as goal

abbrev pub decreases-walk_kind : goal.decreases-walk_kind
decreases-walk_kind l = length l.names.now
