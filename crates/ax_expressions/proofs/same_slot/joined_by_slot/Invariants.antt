use Rattle.std.proofs.Common.{◌++◌, length}
use Rattle.ax_expressions.specs.Plans.{AreAlike}
use Rattle.ax_expressions.proofs.same_slot.joined_by_slot.Given as goal

abbrev pub invariant-loop-plan : goal.invariant-loop-plan
invariant-loop-plan l = AreAlike l.all (l.left.items ++ (l.rows.made.items ++ l.rows.row)) l.fn.plans.items

abbrev pub decreases-loop-plan : goal.decreases-loop-plan
decreases-loop-plan l = length l.left.items
