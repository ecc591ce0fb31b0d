use Rattle.std.proofs.Common.{length}
use Rattle.ax_printed_lines.proofs.ExplicitBuilt.{DigitsLeft}
use Rattle.ax_printed_lines.proofs.explicit.octets_built.Given as goal

abbrev pub invariant-loop-high : goal.invariant-loop-high
invariant-loop-high l = DigitsLeft l.digits l.left l.fn.out l.out

abbrev pub decreases-loop-high : goal.decreases-loop-high
decreases-loop-high l = length l.left
