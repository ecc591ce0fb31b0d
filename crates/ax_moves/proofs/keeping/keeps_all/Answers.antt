use Rattle.std.proofs.Common.{arith}
use Rattle.ax_moves.proofs.KeepingSteps.{sub_next}
use Rattle.ax_moves.proofs.keeping.keeps_all.Goals as goal

pub loop-index-preserved : goal.loop-index-preserved
loop-index-preserved c = record {
  within = omega (arith, c.if-next-moves.false);
  keeps = sub_next c.args.nodes.now c.args.slots.now c.as_slice-moves.result.now c.loop-index.index c.loop-index.next (omega (arith, c.loop-index-test.true)) c.loop-index.invariant.keeps c.index-moves-next.result (omega (arith, c.if-next-moves.false)) c.index-moves-next.is (omega (arith, c.if-link-eq0.false)) (c.stays.ensures c.if-not-stays.false);
}
