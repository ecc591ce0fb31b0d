use Rattle.std.proofs.Common.{ap, sym, ◌∙◌}
use Rattle.ax_migrate_views.proofs.LossSteps.{none_left}
use Rattle.ax_walk.specs.Left.{records_left}
use Rattle.ax_migrate_views.proofs.each_loss.LossesIterator.next.Goals as goal

pub returns-in_default-next-clause-steps : goal.returns-in_default-next-clause-steps
returns-in_default-next-clause-steps c =
    let none = c.in_default.ensures.none in
    let ended = c.in_default-next.ensures.steps in
    let was = c.loop-loss.self in
    let is = c.next_here.new.self in
    (c.loop-loss.invariant ∙ none_left was.paths.now was.count was.here (records_left was.later) none.0 (ap records_left (sym c.next_here.ensures.later) ∙ ended.0), none_left is.paths.now is.count is.here (records_left c.next.new.self) none.1 ended.1)
