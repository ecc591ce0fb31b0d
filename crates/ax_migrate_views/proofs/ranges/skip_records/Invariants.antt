use Rattle.ax_migrate_views.proofs.RangeRecords.{Skipped}
use Rattle.ax_migrate_views.proofs.ranges.skip_records.Given as goal
use Rattle.ax_walk.specs.Left.{records_left}

abbrev pub invariant-loop-count : goal.invariant-loop-count
invariant-loop-count l = Skipped (records_left l.fn.later) (records_left l.later) l.number l.count l.octets
