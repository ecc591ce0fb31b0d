use Rattle.std.proofs.Common.{◌≡◌, ◌-◌, length}
use Rattle.ax_migrate_views.proofs.Splitting.{BlocksSoFar}
use Rattle.ax_endpoints.specs.Changes.{sink_change}
use Rattle.ax_migrate_views.proofs.pieces.write_blocks.Given as goal

abbrev pub invariant-loop-from : goal.invariant-loop-from
invariant-loop-from g l = BlocksSoFar l.migrator l.view.body.now (sink_change g.K.Sink l.fn.out l.out) l.from × (length l.output ≡ 131067)

abbrev pub decreases-loop-from : goal.decreases-loop-from
decreases-loop-from g l = l.count - l.from
