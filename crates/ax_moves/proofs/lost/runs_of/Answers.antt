use Rattle.std.proofs.Common.{arith, ap, length}
use Rattle.ax_moves.proofs.RunSteps.{run_next}
use Rattle.ax_moves.proofs.lost.runs_of.Goals as goal

pub loop-depth-preserved : goal.loop-depth-preserved
loop-depth-preserved c =
    run_next c.args.path.now c.args.behind.now c.loop-depth.left.now c.loop-depth.runs.items c.run_of-run.result.1.now c.push.new.self.items c.loop-depth.depth c.number_at.result c.run_of-run.result.0 c.loop-depth.invariant
    (omega (arith, c.loop-depth-test.true, ap length c.as_slice.ensures.members)) c.number_at.ensures c.run_of-run.ensures c.in_ok-push.ensures.items
