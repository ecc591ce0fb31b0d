use Rattle.std.proofs.Common.{refl, ◌∙◌, ap, length, rules}
use Rattle.ax_expressions.proofs.Levels.{quiet_next, group_says, constant_says}
use Rattle.ax_expressions.proofs.SlotSets.{size_none}
use Rattle.ax_expressions.proofs.grouping.several.Goals as goal

pub loop-plan-init : goal.loop-plan-init
loop-plan-init c = record { size = ap length c.empty-asked.ensures ∙ size_none; quiet = λ marks found e. refl }

pub loop-plan-preserved : goal.loop-plan-preserved
loop-plan-preserved c = record {
  size = c.add_slots.ensures.size;
  quiet = quiet_next c.args.all c.args.plans c.loop-plan.plan-index c.plan-item.result _ _ _ _ _ _ (search rules) (search rules) c.asked_by.ensures c.said_of_none.ensures c.joined-absent.ensures c.add_slots.ensures.apart c.loop-plan.invariant.quiet;
}

pub returns-then-is_empty : goal.returns-then-is_empty
returns-then-is_empty c = constant_says c.args.all c.args.plans c.loop-plan.plan-index c.loop-plan.asked c.loop-plan.absent (search rules) c.loop-plan.invariant.quiet (c.is_empty.ensures c.if-is_empty.true)

pub returns : goal.returns
returns c = group_says c.args.all c.args.plans c.loop-plan.plan-index c.loop-plan.asked c.loop-plan.absent (search rules) c.loop-plan.invariant.quiet
