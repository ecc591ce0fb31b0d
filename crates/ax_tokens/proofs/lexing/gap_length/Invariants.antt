use Rattle.std.proofs.Common.{length, ◌-◌}
use Rattle.ax_tokens.proofs.Gaps.{GapTo}
use Rattle.ax_tokens.proofs.lexing.gap_length.Given as goal

abbrev pub invariant-loop-length : goal.invariant-loop-length
invariant-loop-length l = GapTo l.octets l.length

abbrev pub decreases-loop-length : goal.decreases-loop-length
decreases-loop-length l = length l.octets - l.length
