use Rattle.std.proofs.Common.{◌-◌}
use Rattle.ax_printed_lines.proofs.Room.{MovedSoFar}
use Rattle.ax_printed_lines.proofs.moving.moved_up.Given as goal

abbrev pub invariant-loop-laid : goal.invariant-loop-laid
invariant-loop-laid l = MovedSoFar l.fn.buffer l.buffer l.from l.to l.read l.laid

abbrev pub decreases-loop-laid : goal.decreases-loop-laid
decreases-loop-laid l = l.end - l.laid
