use Rattle.std.proofs.Common.{◌≡◌, length}
use Rattle.ax_migrate_views.specs.Losses.{losses_of_record}
use Rattle.ax_migrate_views.proofs.each_loss.RecordLossesIterator.next.Given as goal

abbrev pub invariant-loop-path : goal.invariant-loop-path
invariant-loop-path l = losses_of_record l.fn.self ≡ losses_of_record l.self

abbrev pub decreases-loop-path : goal.decreases-loop-path
decreases-loop-path l = length l.self.left.now
