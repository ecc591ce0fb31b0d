use Rattle.std.proofs.Common.{◌≤◌, length}
use Rattle.ax_moves.proofs.KeepingSteps.{LeftKeeps}
use Rattle.ax_moves.proofs.keeping.keeps_all.Given as goal

abbrev pub invariant-loop-index : goal.invariant-loop-index
invariant-loop-index l = record {
  within : l.next ≤ length l.moves;
  keeps : LeftKeeps l.nodes l.slots l.moves l.index l.next;
}
