use Rattle.std.proofs.Common.{◌≡◌, ◌+◌, ◌++◌, map, drop}
use Rattle.ax_edition.specs.Index.{found}
use Rattle.ax_relation.specs.Moves.{moves_of}
use Rattle.ax_relation.specs.PlainMoves.{move_tree}
use Rattle.ax_edition.specs.SlotItems.{items_tree}
use Rattle.ax_edition.proofs.moves.move_items.Given as goal

abbrev pub invariant-loop-item : goal.invariant-loop-item
invariant-loop-item l =
    (l.before ≡ l.item-index) × (map move_tree l.made ++ moves_of (l.before + 1) (items_tree (drop l.item-index l.new)) (found l.old) ≡ moves_of 1 (items_tree l.new) (found l.old))
