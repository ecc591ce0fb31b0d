use Rattle.std.proofs.Common.{◌-◌, ◌≤◌, length}
use Rattle.ax_walk.proofs.ExtentWalks.{OctetPartsLeft}
use Rattle.ax_walk.proofs.extents.octet_parts_end.Given as goal

abbrev pub invariant-loop : goal.invariant-loop
invariant-loop l = record {
  within : l.here ≤ length l.start.body.now;
  left : OctetPartsLeft l.most l.start.body.now l.start.at l.here (l.most - l.counter);
}
