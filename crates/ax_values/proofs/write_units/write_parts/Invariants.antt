use Rattle.std.proofs.Common.{length, map}
use Rattle.ax_format.specs.Canonical.{parts_canon}
use Rattle.ax_format.specs.Plain.{part_tree, lists_tree}
use Rattle.ax_values.proofs.WrittenRuns.{PartsLeft}
use Rattle.ax_values.proofs.write_units.write_parts.Given as goal

abbrev pub invariant-loop-part : goal.invariant-loop-part
invariant-loop-part l = PartsLeft l.last l.fn.out l.out (parts_canon l.last (map part_tree l.parts) (lists_tree l.lists)) l.left l.rest

abbrev pub decreases-loop-part : goal.decreases-loop-part
decreases-loop-part l = length l.left
