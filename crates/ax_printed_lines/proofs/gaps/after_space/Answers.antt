use Rattle.std.proofs.Common.{arith}
use Rattle.ax_printed_lines.proofs.Separators.{space_ends}
use Rattle.ax_printed_lines.proofs.gaps.after_space.Goals as goal

pub returns-clause-ended : goal.returns-clause-ended
returns-clause-ended c = space_ends c.args.octets.now c.in_ok-first.following.now c.in_ok-first.first.now c.in_ok-first.ensures.cases.0 (omega arith)
