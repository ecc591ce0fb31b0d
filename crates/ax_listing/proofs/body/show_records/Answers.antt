use Rattle.std.proofs.Common.{◌<◌, arith}
use Rattle.ax_format.specs.Plain.{spec_tree}
use Rattle.ax_values.proofs.RecordSlots.{names_passed}
use Rattle.ax_listing.proofs.RecordLines.{body_first, record_on, body_next, body_failed, body_last}
use Rattle.ax_listing.proofs.body.show_records.Goals as goal

pub loop-at-init : goal.loop-at-init
loop-at-init c = body_first (spec_tree c.args.items.now) c.args.body.now c.args.lister.now.out.octets

pub returns-in_err-at-clause-err : goal.returns-in_err-at-clause-err
returns-in_err-at-clause-err c =
    let spec = spec_tree c.args.items.now in
    let e = c.in_err-at.field-0.0 in
    names_passed spec c.args.body.now c.from_residual.result e c.from_residual.ensures.1
    (body_failed spec c.requires.spec c.args.body.now c.loop-at.at c.loop-at.number c.args.lister.now.out.octets c.loop-at.lister.out.octets c.loop-at.invariant e c.loop-at-test.true c.in_err-at.ensures.err)

pub loop-at-smaller : goal.loop-at-smaller
loop-at-smaller c =
    let on : c.loop-at.at < c.in_ok-at.at = record_on (spec_tree c.args.items.now) c.requires.spec c.args.body.now c.loop-at.at c.loop-at.number c.args.lister.now.out.octets c.loop-at.lister.out.octets c.loop-at.invariant c.in_ok-at.at c.show_record.new.lister.out.octets c.in_ok-at.ensures.ok in
    omega (arith, c.loop-at-test.true)

pub loop-at-preserved : goal.loop-at-preserved
loop-at-preserved c =
    body_next (spec_tree c.args.items.now) c.requires.spec c.args.body.now c.loop-at.at c.loop-at.number c.args.lister.now.out.octets c.loop-at.lister.out.octets c.loop-at.invariant c.in_ok-at.at c.show_record.new.lister.out.octets c.in_ok-at.ensures.ok

pub returns-clause-ok : goal.returns-clause-ok
returns-clause-ok c =
    body_last (spec_tree c.args.items.now) c.requires.spec c.args.body.now c.loop-at.at c.loop-at.number c.args.lister.now.out.octets c.loop-at.lister.out.octets c.loop-at.invariant c.loop-at-test.false c.requires.some
