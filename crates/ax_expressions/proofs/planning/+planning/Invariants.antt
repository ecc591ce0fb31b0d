use Rattle.ax_expressions.proofs.PlannedTests.{PlannedFirst}
use Rattle.ax_expressions.specs.Plans.{Grow}
use Rattle.ax_expressions.proofs.planning.+planning.Given as goal

abbrev pub invariant-plan_several-loop-test : goal.invariant-plan_several-loop-test
invariant-plan_several-loop-test l = record {
  grow : Grow l.fn.numbering.questions l.numbering.questions;
  planned : PlannedFirst l.all l.category l.numbering.questions l.level.items l.tests l.test-index;
}
