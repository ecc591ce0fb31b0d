use Rattle.std.proofs.Common.{◌≡◌, ◌+◌, drop}
use Rattle.ax_relation.specs.PlainMoves.{moves_tree}
use Rattle.ax_moves.specs.BySlot.{place_from}
use Rattle.ax_moves.proofs.by_slot.place_of.Given as goal

abbrev pub invariant-loop-index : goal.invariant-loop-index
invariant-loop-index l = place_from (l.index + 1) l.slot (moves_tree (drop l.index l.moves)) ≡ place_from 1 l.slot (moves_tree l.moves)
