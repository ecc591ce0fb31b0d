use Rattle.std.proofs.Common.{length, ap, sym, arith}
use Rattle.std.proofs.lemmas.List.{length_push}
use Rattle.ax_expressions.proofs.PlannedTests.{each_next}
use Rattle.ax_expressions.proofs.planning.plan_categories.Goals as goal

pub loop-category-preserved : goal.loop-category-preserved
loop-category-preserved c =
    let i = c.loop-category.invariant in
    let pushed = c.in_ok-push.ensures.ok in record {
      size = omega (arith, ap length pushed, length_push c.loop-category.made c.in_ok-plan_category.field-0, i.size);
      planned = each_next c.loop-category.numbering.questions c.plan_category.new.numbering.questions c.loop-category.made c.push.new.self c.args.test.now c.loop-category.category c.in_ok-plan_category.field-0 i.planned c.in_ok-plan_category.ensures.grow (sym i.size) c.in_ok-plan_category.ensures.plan pushed;
    }
