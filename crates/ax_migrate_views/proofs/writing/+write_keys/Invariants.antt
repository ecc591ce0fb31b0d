use Rattle.std.proofs.Common.{length}
use Rattle.ax_migrate_views.proofs.writing.+write_keys.Given as goal

abbrev pub decreases-write_keys : goal.decreases-write_keys
decreases-write_keys g l = length l.lost.now.keys.now
