use Rattle.std.proofs.Common.{◌≡◌, ◌+◌, ◌++◌, map, drop}
use Rattle.ax_edition.specs.Index.{found}
use Rattle.ax_relation.specs.Moves.{moves_of}
use Rattle.ax_relation.specs.PlainMoves.{move_tree}
use Rattle.ax_format.specs.Plain.{slots_tree}
use Rattle.ax_edition.proofs.moves.+moves_of.Given as goal

abbrev pub invariant-moves_of_slots-loop-slot : goal.invariant-moves_of_slots-loop-slot
invariant-moves_of_slots-loop-slot l =
    (l.before ≡ l.slot-index) × (map move_tree l.made ++ moves_of (l.before + 1) (slots_tree (drop l.slot-index l.new)) (found l.old) ≡ moves_of 1 (slots_tree l.new) (found l.old))
