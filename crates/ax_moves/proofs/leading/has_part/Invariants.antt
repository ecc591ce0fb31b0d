use Rattle.std.proofs.Common.{length}
use Rattle.ax_moves.proofs.ItemParts.{PartsLeft}
use Rattle.ax_walk.specs.Left.{parts_left}
use Rattle.ax_moves.proofs.leading.has_part.Given as goal

abbrev pub invariant-loop-later : goal.invariant-loop-later
invariant-loop-later l = PartsLeft l.item l.number (parts_left l.later) l.before

abbrev pub decreases-loop-later : goal.decreases-loop-later
decreases-loop-later l = length (parts_left l.later)
