use Rattle.std.proofs.Common.{◌<◌, arith, subst, sym}
use Rattle.ax_format.specs.Plain.{spec_tree, record_tree}
use Rattle.ax_values.proofs.RecordSlots.{BodySoFar, body_more, body_all, body_err, names_passed, forwards_record}
use Rattle.ax_values.proofs.decode.decode_body.Goals as goal

pub returns-in_err-record-clause-fault : goal.returns-in_err-record-clause-fault
returns-in_err-record-clause-fault c =
    let spec = spec_tree c.args.spec.now in
    let e = c.in_err-record.field-0.0 in
    names_passed spec c.args.body.now c.from_residual.result e c.from_residual.ensures.1 (body_err spec c.args.body.now c.loop-at.at c.loop-at.made e c.loop-at.invariant c.loop-at-test.true c.in_err-record.ensures.fault)

pub loop-at-smaller : goal.loop-at-smaller
loop-at-smaller c =
    let on : c.loop-at.at < c.in_ok-record.end = forwards_record (spec_tree c.args.spec.now) c.args.body.now c.loop-at.at c.in_ok-record.end (record_tree c.in_ok-record.record) c.in_ok-record.ensures.record in
    omega (arith, c.loop-at-test.true)

pub loop-at-preserved : goal.loop-at-preserved
loop-at-preserved c =
    subst (λ made. BodySoFar (spec_tree c.args.spec.now) c.args.body.now c.in_ok-record.end made) (sym c.in_ok-push.ensures.ok)
    (body_more (spec_tree c.args.spec.now) c.args.body.now c.loop-at.at c.in_ok-record.end c.loop-at.made c.in_ok-record.record c.loop-at.invariant c.in_ok-record.ensures.record)

pub returns-clause-records : goal.returns-clause-records
returns-clause-records c = body_all (spec_tree c.args.spec.now) c.args.body.now c.loop-at.at c.loop-at.made c.loop-at.invariant c.loop-at-test.false c.requires.some
