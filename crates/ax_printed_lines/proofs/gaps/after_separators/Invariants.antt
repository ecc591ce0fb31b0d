use Rattle.std.proofs.Common.{length}
use Rattle.ax_printed_lines.specs.Printed.{AfterGap}
use Rattle.ax_printed_lines.proofs.gaps.after_separators.Given as goal

abbrev pub invariant-loop-octet : goal.invariant-loop-octet
invariant-loop-octet l = AfterGap l.octets l.left

abbrev pub decreases-loop-octet : goal.decreases-loop-octet
decreases-loop-octet l = length l.left
