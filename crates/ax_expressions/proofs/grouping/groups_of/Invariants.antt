use Rattle.std.proofs.Common.{◌≤◌, ◌+◌, ◌*◌, ◌++◌, length}
use Rattle.ax_expressions.specs.Plans.{AreAlike}
use Rattle.ax_expressions.proofs.grouping.groups_of.Given as goal

abbrev pub invariant-loop-plan : goal.invariant-loop-plan
invariant-loop-plan l = record {
  alike : AreAlike l.all (l.left.items ++ (l.made.items ++ l.latest)) l.fn.plans.items;
  few : 8 * length l.made.items + length l.latest + length l.left.items ≤ length l.fn.plans.items;
  some : length l.left.items + 1 ≤ length l.fn.plans.items → 1 ≤ length l.latest;
}

abbrev pub decreases-loop-plan : goal.decreases-loop-plan
decreases-loop-plan l = length l.left.items
