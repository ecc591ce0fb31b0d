use Rattle.ax_expressions.proofs.Levels.{level_in_order, alike_more}
use Rattle.ax_expressions.proofs.grouping.grouped.Goals as goal

pub loop-alloc-init : goal.loop-alloc-init
loop-alloc-init c =
    alike_more c.args.all c.in_ok-level.level.items c.sort_by_key.new.self.items c.args.plans.items c.in_ok-level.ensures
    (level_in_order c.args.all c.args.plans.items c.sort_by_key.new.self.items c.in_ok-sort_by_key.ensures.permutation)
