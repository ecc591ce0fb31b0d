use Rattle.std.proofs.Common.{◌≡◌, length}
use Rattle.ax_relation.specs.PlainMoves.{moves_tree}
use Rattle.ax_fspec.specs.Marks.{no_marks, slots_of}
use Rattle.ax_moves.specs.BySlot.{slots_marks}
use Rattle.ax_moves.specs.Wholes.{whole_entries}
use Rattle.ax_moves.proofs.in_order.marked_anew.Given as goal

abbrev pub invariant-loop-slot : goal.invariant-loop-slot
invariant-loop-slot l = slots_marks (slots_of l.left) (moves_tree l.moves) (whole_entries l.whole) l.marked ≡ slots_marks (slots_of l.whole.places.now.marked) (moves_tree l.moves) (whole_entries l.whole) no_marks

abbrev pub decreases-loop-slot : goal.decreases-loop-slot
decreases-loop-slot l = length (slots_of l.left)
