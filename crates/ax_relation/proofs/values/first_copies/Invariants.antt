use Rattle.std.proofs.Common.{◌≡◌, ◌≤◌, take}
use Rattle.ax_relation.proofs.values.first_copies.Given as goal

abbrev pub invariant-loop-values : goal.invariant-loop-values
invariant-loop-values l = (l.made ≡ take l.values-index l.lists) × (l.values-index ≤ l.count)
