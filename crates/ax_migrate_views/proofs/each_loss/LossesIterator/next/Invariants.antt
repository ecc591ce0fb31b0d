use Rattle.std.proofs.Common.{◌≡◌, length}
use Rattle.ax_migrate_views.specs.Losses.{losses_left}
use Rattle.ax_walk.specs.Left.{records_left}
use Rattle.ax_migrate_views.proofs.each_loss.LossesIterator.next.Given as goal

abbrev pub invariant-loop-loss : goal.invariant-loop-loss
invariant-loop-loss l = losses_left l.fn.self ≡ losses_left l.self

abbrev pub decreases-loop-loss : goal.decreases-loop-loss
decreases-loop-loss l = length (records_left l.self.later)
