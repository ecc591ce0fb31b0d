use Rattle.std.proofs.Common.{◌≡◌, length}
use Rattle.ax_migrate_views.proofs.Fits.{FitSoFar}
use Rattle.ax_migrate_views.proofs.migrator.Migrator.fit_records.Given as goal
use Rattle.ax_walk.specs.Left.{records_left}

abbrev pub invariant-loop-record : goal.invariant-loop-record
invariant-loop-record l = FitSoFar l.self (records_left l.fn.later) (records_left l.later) l.count l.octets × (length l.output ≡ 131067) × (length l.lines ≡ 131067)

abbrev pub decreases-loop-record : goal.decreases-loop-record
decreases-loop-record l = length (records_left l.later)
