use Rattle.std.proofs.Common.{◌≡◌, drop}
use Rattle.ax_relation.specs.PlainMoves.{moves_tree}
use Rattle.ax_fspec.specs.Marks.{no_marks}
use Rattle.ax_moves.specs.Octets.{marks_by}
use Rattle.ax_moves.specs.Wholes.{whole_entries}
use Rattle.ax_moves.proofs.marks.moved_slots.Given as goal

abbrev pub invariant-loop-one : goal.invariant-loop-one
invariant-loop-one l = marks_by (moves_tree (drop l.one-index l.moves)) (whole_entries l.whole) l.marked ≡ marks_by (moves_tree l.moves) (whole_entries l.whole) no_marks
