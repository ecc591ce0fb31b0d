use Rattle.ax_relation.specs.PlainMoves.{moves_tree}
use Rattle.ax_moves.specs.KnownMoves.{AreFirst}
use Rattle.ax_moves.proofs.known_moves.are_first.Given as goal

abbrev pub invariant-loop-index : goal.invariant-loop-index
invariant-loop-index l = AreFirst l.index (moves_tree l.moves)
