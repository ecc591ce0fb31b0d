use Rattle.ax_format.specs.Plain.{spec_tree}
use Rattle.ax_vectors.proofs.KindDraws.{each_next}
use Rattle.ax_vectors.specs.Made.{record_made}
use Rattle.ax_vectors.proofs.blocks.make_each_record.Goals as goal

pub loop-left-preserved : goal.loop-left-preserved
loop-left-preserved c =
    each_next (record_made (spec_tree c.args.spec.now)) c.args.count c.loop-left.left c.args.into.now c.loop-left.into c.make_record.new.into c.args.draws.now c.loop-left.draws c.make_record.new.draws
    c.loop-left.invariant c.loop-left-test.true c.in_ok-make_record.ensures
