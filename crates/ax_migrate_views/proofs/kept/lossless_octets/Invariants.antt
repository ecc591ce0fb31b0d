use Rattle.std.proofs.Common.{◌≤◌}
use Rattle.ax_migrate_views.proofs.KeptItems.{LossFrom}
use Rattle.ax_migrate_views.proofs.kept.lossless_octets.Given as goal

abbrev pub invariant-loop-index : goal.invariant-loop-index
invariant-loop-index l = record {
  least : l.octets ≤ l.most;
  past : LossFrom l.lost l.slot l.octets l.index;
}
