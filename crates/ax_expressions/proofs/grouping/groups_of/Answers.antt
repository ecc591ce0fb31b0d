use Rattle.std.proofs.Common.{length, ap, arith, ◌∙◌}
use Rattle.std.proofs.lemmas.List.{length_push}
use Rattle.ax_expressions.proofs.Levels.{passed_on, closed, none_left, alike_more, no_members}
use Rattle.ax_expressions.proofs.grouping.groups_of.Goals as goal

pub loop-plan-preserved : goal.loop-plan-preserved
loop-plan-preserved c =
    let i = c.loop-plan.invariant in
    let k = c.in_ok-close_full.ensures in
    let popped = ap length c.in-Some.ensures.items ∙ length_push c.pop.new.self.items c.in-Some.plan in
    let pushed = ap length c.in_ok-push.ensures.ok ∙ length_push c.close_full.new.latest c.in-Some.plan in
    record {
      alike = passed_on c.args.all c.args.plans.items c.loop-plan.left.items c.pop.new.self.items c.loop-plan.made.items c.loop-plan.latest c.close_full.new.made.items c.close_full.new.latest c.push.new.self c.in-Some.plan c.in-Some.ensures.items c.in_ok-push.ensures.ok k.alike i.alike;
      few = omega (arith, i.few, k.few, popped, pushed);
      some = λ _. omega (arith, pushed);
    }

pub returns-clause-alike : goal.returns-clause-alike
returns-clause-alike c =
    alike_more c.args.all c.push-2.new.self.items _ c.args.plans.items (closed c.args.all c.loop-plan.made.items c.loop-plan.latest c.push-2.new.self.items c.several.result c.in_ok-push-2.ensures.items c.several.ensures)
    (none_left c.args.all c.args.plans.items c.loop-plan.left.items _ (no_members c.loop-plan.left.items (omega (arith, c.in_default.ensures.cases.0))) c.loop-plan.invariant.alike)
