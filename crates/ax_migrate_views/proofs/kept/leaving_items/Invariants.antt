use Rattle.ax_relation.specs.PlainMoves.{moves_tree}
use Rattle.ax_migrate_views.specs.Kept.{OthersStay}
use Rattle.ax_migrate_views.proofs.kept.leaving_items.Given as goal

abbrev pub invariant-loop-slot : goal.invariant-loop-slot
invariant-loop-slot l = OthersStay l.nodes l.links (moves_tree l.moves) l.lost l.slot l.leaving
