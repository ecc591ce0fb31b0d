use Rattle.std.proofs.Common.{◌≡◌, ◌-◌, length}
use Rattle.ax_migrate_views.proofs.Splitting.{Judged}
use Rattle.ax_migrate_views.specs.Pieces.{AreKnown}
use Rattle.ax_migrate_views.proofs.pieces.first_too_long.Given as goal

abbrev pub invariant-loop-from : goal.invariant-loop-from
invariant-loop-from l = Judged l.migrator l.view.body.now l.from × (length l.known ≡ 64) × AreKnown l.migrator l.view.body.now l.known

abbrev pub decreases-loop-from : goal.decreases-loop-from
decreases-loop-from l = l.count - l.from
