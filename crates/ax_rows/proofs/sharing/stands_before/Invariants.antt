use Rattle.std.proofs.Common.{◌+◌, ◌-◌, ◌≤◌, length, drop}
use Rattle.ax_rows.specs.Rows.{Stands}
use Rattle.ax_rows.proofs.sharing.stands_before.Given as goal

abbrev pub invariant-loop-left : goal.invariant-loop-left
invariant-loop-left l = record {
  few : l.left ≤ length l.steps - l.first;
  before : l.place + (length l.steps - l.first) ≤ l.first;
  stands : Stands l.steps (l.place + l.left) (drop (l.first + l.left) l.steps);
}

abbrev pub decreases-loop-left : goal.decreases-loop-left
decreases-loop-left l = l.left
