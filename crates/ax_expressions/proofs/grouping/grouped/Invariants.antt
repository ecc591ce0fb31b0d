use Rattle.std.proofs.Common.{length}
use Rattle.ax_expressions.specs.Plans.{AreAlike}
use Rattle.ax_expressions.proofs.grouping.grouped.Given as goal

abbrev pub invariant-loop-alloc : goal.invariant-loop-alloc
invariant-loop-alloc l = AreAlike l.all l.level.items l.fn.plans.items

abbrev pub decreases-loop-alloc : goal.decreases-loop-alloc
decreases-loop-alloc l = length l.level.items
