use Rattle.std.proofs.Common.{◌+◌, ◌*◌, length}
use Rattle.ax_relation.specs.PlainMoves.{move_tree, moves_tree}
use Rattle.ax_relation.specs.declared.moves.Move.{out-Move}
use Rattle.ax_fspec.specs.Marks.{slots_of}
use Rattle.ax_moves.proofs.Entries.{LaidSoFar}
use Rattle.ax_moves.proofs.MoveSizes.{move_size, moves_size}
use Rattle.ax_moves.proofs.PlacesThere.{LaidPlaces}
use Rattle.ax_moves.specs.Wholes.{whole_slots, whole_entries}
use Rattle.ax_moves.proofs.values.+laying.Given as goal

abbrev pub invariant-lay_entries-loop-index : goal.invariant-lay_entries-loop-index
invariant-lay_entries-loop-index l = LaidSoFar l.moves l.index (whole_slots l.whole) (whole_entries l.whole) l.at l.end l.fn.output l.output

abbrev pub invariant-lay_there-loop-place : goal.invariant-lay_there-loop-place
invariant-lay_there-loop-place l = LaidPlaces (slots_of l.left) (slots_of l.there.places) (moves_tree l.moves) (whole_slots l.whole) (whole_entries l.whole) l.at l.end l.fn.output l.output

abbrev pub decreases-lay_there-loop-place : goal.decreases-lay_there-loop-place
decreases-lay_there-loop-place l = length (slots_of l.left)

abbrev pub decreases-lay_value : goal.decreases-lay_value
decreases-lay_value l = 6 * move_size (move_tree l.one.now) + 1

abbrev pub decreases-lay_anew : goal.decreases-lay_anew
decreases-lay_anew l = 6 * move_size (move_tree l.one.now)

abbrev pub decreases-lay_subitems : goal.decreases-lay_subitems
decreases-lay_subitems l = 6 * moves_size (moves_tree (out-Move l.one.now).below) + 5

abbrev pub decreases-lay_whole : goal.decreases-lay_whole
decreases-lay_whole l = 6 * moves_size (moves_tree l.moves.now) + 4

abbrev pub decreases-lay_entry : goal.decreases-lay_entry
decreases-lay_entry l = 6 * move_size (move_tree l.one.now) + 2

abbrev pub decreases-lay_there : goal.decreases-lay_there
decreases-lay_there l = 6 * moves_size (moves_tree l.moves.now) + 3

abbrev pub decreases-lay_entries : goal.decreases-lay_entries
decreases-lay_entries l = 6 * moves_size (moves_tree l.moves.now) + 3
