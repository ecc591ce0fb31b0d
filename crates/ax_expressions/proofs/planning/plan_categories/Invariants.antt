use Rattle.std.proofs.Common.{◌≡◌, length}
use Rattle.ax_expressions.specs.Plans.{PlanEach}
use Rattle.ax_expressions.proofs.planning.plan_categories.Given as goal

abbrev pub invariant-loop-category : goal.invariant-loop-category
invariant-loop-category l = record {
  size : length l.made ≡ l.category;
  planned : PlanEach l.numbering.questions l.made l.test;
}
