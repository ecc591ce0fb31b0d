use Rattle.ax_vectors.proofs.FieldOctets.{field_next}
use Rattle.ax_vectors.proofs.field.push_field.Goals as goal

pub loop-left-preserved : goal.loop-left-preserved
loop-left-preserved c =
    field_next c.args.count c.args.marks.now c.loop-left.left c.loop-left.rest.now c.args.into.now c.loop-left.into c.push_seven.new.into c.push_fx.new.into c.after_seven-rest.result.now
    c.loop-left.invariant c.loop-left-test.true c.in_ok-push_seven.ensures c.in_ok-push_fx.ensures c.after_seven-rest.ensures
