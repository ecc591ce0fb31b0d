use Rattle.std.proofs.Common.{length}
use Rattle.ax_moves.proofs.ItemParts.{PartsPassed}
use Rattle.ax_walk.specs.Left.{parts_left}
use Rattle.ax_moves.proofs.leading.count_parts.Given as goal

abbrev pub invariant-loop-count : goal.invariant-loop-count
invariant-loop-count l = PartsPassed l.item (parts_left l.later) l.count

abbrev pub decreases-loop-count : goal.decreases-loop-count
decreases-loop-count l = length (parts_left l.later)
