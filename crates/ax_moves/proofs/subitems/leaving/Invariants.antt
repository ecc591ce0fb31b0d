use Rattle.ax_relation.specs.PlainMoves.{moves_tree}
use Rattle.ax_moves.specs.Subitems.{OthersRemain}
use Rattle.ax_moves.proofs.subitems.leaving.Given as goal

abbrev pub invariant-loop-slot : goal.invariant-loop-slot
invariant-loop-slot l = OthersRemain l.nodes l.links (moves_tree l.moves) l.slot l.leaving
