use Rattle.std.proofs.Common.{◌≡◌, length}
use Rattle.ax_rows.specs.Rows.{EachRow}
use Rattle.ax_rows.proofs.making.make_rows.Given as goal

abbrev pub invariant-loop-place : goal.invariant-loop-place
invariant-loop-place l = record {
  rows : EachRow l.octets l.slots l.start.items l.steps.items;
  count : l.place ≡ length l.start.items;
}
