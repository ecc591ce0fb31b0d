-- The plans of a level while those that ask one slot alone are joined.
use Rattle.std.specs.Prelude.{List, ◌++◌}
use Rattle.ax_expressions.specs.declared.plan.Plan.{Plan}
use Rattle.ax_expressions.specs.declared.same_slot.PlanRows.{PlanRows}

-- those that are made, and then those of the row that is open
abbrev pub plans_in : PlanRows → List Plan
plans_in rows = rows.made.items ++ rows.row
