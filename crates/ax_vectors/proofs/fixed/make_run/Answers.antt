use Rattle.std.proofs.Common.{◌≡◌, ◌-◌, suc, arith}
use Rattle.ax_format.specs.Plain.{fixed_tree}
use Rattle.ax_vectors.proofs.Left.{run_next}
use Rattle.ax_vectors.proofs.fixed.make_run.Goals as goal

pub loop-left-preserved : goal.loop-left-preserved
loop-left-preserved c =
    let more : c.loop-left.left ≡ suc (c.loop-left.left - 1) = omega (arith, c.loop-left-test.true) in
    run_next (fixed_tree c.args.fixed.now) c.loop-left.left (c.loop-left.left - 1) c.args.count c.args.into.now c.loop-left.into c.make_fixed.new.into c.push_fx.new.into c.args.draws.now c.loop-left.draws c.make_fixed.new.draws
    c.loop-left.invariant more c.in_ok-make_fixed.ensures c.in_ok-push_fx.ensures
