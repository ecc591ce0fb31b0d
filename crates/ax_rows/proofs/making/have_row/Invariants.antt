use Rattle.std.proofs.Common.{◌≤◌, length}
use Rattle.std.specs.List.{AllByRecursion}
use Rattle.ax_rows.proofs.SlotSteps.{SameRow}
use Rattle.ax_rows.proofs.making.have_row.Given as goal

abbrev pub invariant-loop-count : goal.invariant-loop-count
invariant-loop-count l = record {
  links : AllByRecursion (λ link. link ≤ length l.octets) l.left;
  few : l.count ≤ 7;
  same : SameRow l.octets l.slots l.marks l.left l.count;
}

abbrev pub decreases-loop-count : goal.decreases-loop-count
decreases-loop-count l = l.count
