use Rattle.std.proofs.Common.{rules}
use Rattle.ax_expressions.proofs.PlannedTests.{grow_more, planned_same, planned_decided, planned_open, planned_if, all_planned, any_planned}
use Rattle.ax_expressions.proofs.planning.+planning.Goals as goal

pub plan_of-returns-in-All-clause-plan : goal.plan_of-returns-in-All-clause-plan
plan_of-returns-in-All-clause-plan t c = all_planned c.plan_several.new.numbering.questions c.plan_several.result c.args.category c.args.test.now _ c.in-All.is c.plan_several.ensures.plan

pub plan_of-returns-in-Any-clause-plan : goal.plan_of-returns-in-Any-clause-plan
plan_of-returns-in-Any-clause-plan t c = any_planned c.plan_several-in-Any.new.numbering.questions c.plan_several-in-Any.result c.args.category c.args.test.now _ c.in-Any.is c.plan_several-in-Any.ensures.plan

pub plan_several-loop-test-preserved-then-holds-all : goal.plan_several-loop-test-preserved-then-holds-all
plan_several-loop-test-preserved-then-holds-all t c = record {
  grow = grow_more _ _ _ c.loop-test.invariant.grow c.in_ok-plan.ensures.grow;
  planned = planned_same c.args.all c.args.category c.loop-test.numbering.questions c.plan_of.new.numbering.questions c.loop-test.level.items c.args.tests.now c.loop-test.test-index c.test-item.result c.in_ok-plan.plan (search rules) (search rules) c.in_ok-plan.ensures.grow c.loop-test.invariant.planned c.in_ok-plan.ensures.plan
      c.in-Always.holds c.in-Always.is (search rules);
}

pub plan_several-returns-in-Always-clause-plan : goal.plan_several-returns-in-Always-clause-plan
plan_several-returns-in-Always-clause-plan t c =
    planned_decided c.args.all c.args.category c.loop-test.numbering.questions c.plan_of.new.numbering.questions c.loop-test.level.items c.args.tests.now c.loop-test.test-index c.test-item.result c.in_ok-plan.plan (search rules) (search rules) c.in_ok-plan.ensures.grow c.loop-test.invariant.planned c.in_ok-plan.ensures.plan
    c.in-Always.holds c.in-Always.is (search rules)

pub plan_several-loop-test-preserved : goal.plan_several-loop-test-preserved
plan_several-loop-test-preserved t c = record {
  grow = grow_more _ _ _ c.loop-test.invariant.grow c.in_ok-plan.ensures.grow;
  planned = planned_open c.args.all c.args.category c.loop-test.numbering.questions c.plan_of.new.numbering.questions c.loop-test.level.items c.args.tests.now c.loop-test.test-index c.test-item.result c.in_ok-plan.plan (search rules) (search rules) c.in_ok-plan.ensures.grow c.loop-test.invariant.planned c.in_ok-plan.ensures.plan
      c.push.new.self.items c.in_ok-push.ensures.items;
}

pub plan_several-returns-clause-plan : goal.plan_several-returns-clause-plan
plan_several-returns-clause-plan t c =
    planned_if c.grouped.result c.args.all c.args.category c.loop-test.numbering.questions c.loop-test.level.items c.args.tests.now c.loop-test.test-index (search rules) c.grouped.ensures c.loop-test.invariant.planned
