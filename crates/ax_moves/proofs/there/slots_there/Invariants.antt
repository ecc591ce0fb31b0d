use Rattle.std.proofs.Common.{◌≡◌, length}
use Rattle.ax_relation.specs.PlainMoves.{moves_tree}
use Rattle.ax_fspec.specs.Marks.{no_marks, slots_of}
use Rattle.ax_moves.specs.KnownMoves.{places_marks}
use Rattle.ax_moves.specs.Wholes.{whole_entries}
use Rattle.ax_moves.proofs.there.slots_there.Given as goal

abbrev pub invariant-loop-place : goal.invariant-loop-place
invariant-loop-place l = places_marks (slots_of l.left) (moves_tree l.moves) (whole_entries l.whole) l.marked ≡ places_marks (slots_of l.there) (moves_tree l.moves) (whole_entries l.whole) no_marks

abbrev pub decreases-loop-place : goal.decreases-loop-place
decreases-loop-place l = length (slots_of l.left)
