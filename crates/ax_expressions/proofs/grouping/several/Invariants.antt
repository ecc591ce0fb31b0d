use Rattle.std.proofs.Common.{◌≡◌, length}
use Rattle.ax_expressions.proofs.Levels.{Quiet}
use Rattle.ax_expressions.proofs.grouping.several.Given as goal

abbrev pub invariant-loop-plan : goal.invariant-loop-plan
invariant-loop-plan l = record {
  size : length l.asked ≡ 126;
  quiet : Quiet l.all l.fn.plans l.plan-index l.asked l.absent;
}
