use Rattle.ax_expressions.proofs.SameSlots.{put_on}
use Rattle.ax_expressions.proofs.same_slot.joined_by_slot.Goals as goal

pub loop-plan-preserved : goal.loop-plan-preserved
loop-plan-preserved c =
    put_on c.args.all c.args.plans.items c.loop-plan.left.items c.pop.new.self.items c.loop-plan.rows.made.items c.loop-plan.rows.row c.open_row.new.rows.made.items c.open_row.new.rows.row c.put.new.rows.made.items c.put.new.rows.row c.in-Some.plan c.in-Some.ensures.items
    c.in_ok-open_row.ensures.alike c.in_ok-put.ensures c.loop-plan.invariant
