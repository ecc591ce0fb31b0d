use Rattle.std.proofs.Common.{IsTrue, drop}
use Rattle.ax_relation.specs.PlainMoves.{moves_tree}
use Rattle.ax_moves.specs.BySlot.{ascends}
use Rattle.ax_moves.proofs.by_slot.are_ordered.Given as goal

abbrev pub invariant-loop-one : goal.invariant-loop-one
invariant-loop-one l = IsTrue (ascends l.least (moves_tree (drop l.one-index l.moves))) → IsTrue (ascends 1 (moves_tree l.moves))
