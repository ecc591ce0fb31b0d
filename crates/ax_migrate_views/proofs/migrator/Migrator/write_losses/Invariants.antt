use Rattle.std.proofs.Common.{◌≡◌, ◌+◌, ◌≤◌, length}
use Rattle.ax_migration.specs.Losing.{lost_lines}
use Rattle.ax_migrate_views.proofs.LossSteps.{Front}
use Rattle.ax_migrate_views.proofs.WritingSteps.{OfCodec}
use Rattle.ax_migrate_views.specs.Losses.{shown_losses}
use Rattle.ax_moves.specs.Lost.{key_paths}
use Rattle.ax_walk.specs.Left.{records_left}
use Rattle.ax_migrate_views.proofs.migrator.Migrator.write_losses.Given as goal

abbrev pub invariant-loop-one : goal.invariant-loop-one
invariant-loop-one g l = record {
  front : Front (g.R.Sink.held l.fn.report) (g.R.Sink.held l.report) (g.R.Sink.faults l.fn.report) (g.R.Sink.faults l.report) (lost_lines l.block (shown_losses (key_paths l.self.lost.items) 0 (records_left l.initial.one-iterator)))
      (lost_lines l.block (shown_losses (key_paths l.self.lost.items) l.number (records_left l.one-iterator)));
  codec : OfCodec l.self.codec.now (records_left l.one-iterator);
  few : l.number + length (records_left l.one-iterator) ≤ 65532;
  room : length l.lines ≡ 131067;
}
