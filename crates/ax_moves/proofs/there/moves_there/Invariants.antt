use Rattle.std.proofs.Common.{◌≡◌, length}
use Rattle.ax_fspec.specs.Marks.{no_marks, slots_of}
use Rattle.ax_moves.specs.KnownMoves.{with_places}
use Rattle.ax_moves.proofs.there.moves_there.Given as goal

abbrev pub invariant-loop-slot : goal.invariant-loop-slot
invariant-loop-slot l = with_places (slots_of l.left) l.places l.there ≡ with_places (slots_of l.whole.places.now.marked) l.places no_marks

abbrev pub decreases-loop-slot : goal.decreases-loop-slot
decreases-loop-slot l = length (slots_of l.left)
