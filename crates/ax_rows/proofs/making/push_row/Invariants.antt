use Rattle.std.proofs.Common.{◌≡◌, ◌+◌, ◌*◌, ◌≤◌, ◌++◌, length}
use Rattle.std.specs.List.{AllByRecursion}
use Rattle.ax_bits.specs.Bits.{word}
use Rattle.ax_fspec.specs.Marks.{seven}
use Rattle.ax_rows.specs.Rows.{row_of, Extends}
use Rattle.ax_rows.proofs.SlotSteps.{LeftRow}
use Rattle.ax_rows.proofs.making.push_row.Given as goal

abbrev pub invariant-loop-link : goal.invariant-loop-link
invariant-loop-link l = record {
  links : AllByRecursion (λ link. link ≤ length l.octets) l.left;
  has : LeftRow l.octets l.left l.count l.marks;
  few : l.count ≤ 7;
  small : l.skip + 65535 * l.count ≤ 458745;
  row : l.steps.items ++ row_of l.octets l.left (word l.count l.marks) l.skip ≡ l.fn.steps.items ++ row_of l.octets l.slots (seven l.marks) 0;
  kept : Extends l.fn.steps.items l.steps.items;
}

abbrev pub decreases-loop-link : goal.decreases-loop-link
decreases-loop-link l = length l.left
