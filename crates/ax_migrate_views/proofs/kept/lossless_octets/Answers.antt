use Rattle.std.proofs.Common.{arith}
use Rattle.ax_migrate_views.proofs.KeptItems.{loss_next}
use Rattle.ax_migrate_views.proofs.kept.lossless_octets.Goals as goal

pub loop-index-preserved : goal.loop-index-preserved
loop-index-preserved c = record {
  least = omega (arith, c.octets_without-octets.ensures.least, c.loop-index.invariant.least);
  past = loss_next c.args.lost.now c.args.slot c.loop-index.octets c.loop-index.index c.loop-index.invariant.past c.index-lost-index.result (omega (arith, c.loop-index-test.true)) c.index-lost-index.is c.octets_without-octets.result c.octets_without-octets.ensures.least c.octets_without-octets.ensures.past;
}
