use Rattle.std.proofs.Common.{length}
use Rattle.ax_relation.specs.PlainMoves.{moves_tree}
use Rattle.ax_fspec.specs.Marks.{slots_of}
use Rattle.ax_moves.proofs.LaidRuns.{LaidRun}
use Rattle.ax_moves.specs.BySlot.{slots_canon}
use Rattle.ax_moves.specs.Wholes.{whole_entries, whole_slots}
use Rattle.ax_moves.proofs.in_order.lay_marked.Given as goal

abbrev pub invariant-loop-slot : goal.invariant-loop-slot
invariant-loop-slot l =
    LaidRun (slots_canon (slots_of l.whole.places.now.marked) (moves_tree l.moves) (whole_slots l.whole) (whole_entries l.whole)) (slots_canon (slots_of l.left) (moves_tree l.moves) (whole_slots l.whole) (whole_entries l.whole))
    l.whole.body.now l.start l.stop l.at l.end l.fn.output l.output

abbrev pub decreases-loop-slot : goal.decreases-loop-slot
decreases-loop-slot l = length (slots_of l.left)
