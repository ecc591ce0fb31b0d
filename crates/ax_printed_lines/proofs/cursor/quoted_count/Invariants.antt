use Rattle.std.proofs.Common.{length, ◌-◌}
use Rattle.ax_printed_lines.proofs.cursor.quoted_count.Given as goal

abbrev pub decreases-loop-count : goal.decreases-loop-count
decreases-loop-count l = length l.octets - l.count
