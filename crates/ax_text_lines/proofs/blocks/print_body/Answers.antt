use Rattle.std.proofs.Common.{◌<◌, arith}
use Rattle.ax_format.specs.Plain.{spec_tree}
use Rattle.ax_text_lines.proofs.RecordsPrinted.{record_forwards, records_more, records_all, records_fault}
use Rattle.ax_text_lines.proofs.blocks.print_body.Goals as goal
use Rattle.ax_values.proofs.RecordSlots.{names_passed}

pub returns-in_err-at-clause-fault : goal.returns-in_err-at-clause-fault
returns-in_err-at-clause-fault c =
    let spec = spec_tree c.args.items.now in
    let e = c.in_err-at.field-0.0 in
    names_passed spec c.args.body.now c.from_residual.result e c.from_residual.ensures.1 (records_fault spec c.args.body.now c.loop-at.at c.args.line.now.octets c.loop-at.line.octets e c.requires.spec c.loop-at.invariant c.loop-at-test.true c.in_err-at.ensures.err)

pub loop-at-smaller : goal.loop-at-smaller
loop-at-smaller c =
    let on : c.loop-at.at < c.in_ok-at.at = record_forwards (spec_tree c.args.items.now) c.args.body.now c.loop-at.at c.in_ok-at.at c.loop-at.line.octets c.print_record.new.line.octets c.requires.spec c.in_ok-at.ensures.ok in
    omega (arith, c.loop-at-test.true)

pub loop-at-preserved : goal.loop-at-preserved
loop-at-preserved c =
    records_more (spec_tree c.args.items.now) c.args.body.now c.loop-at.at c.in_ok-at.at c.args.line.now.octets c.loop-at.line.octets c.print_record.new.line.octets c.requires.spec c.loop-at.invariant c.in_ok-at.ensures.ok

pub returns-clause-records : goal.returns-clause-records
returns-clause-records c = records_all (spec_tree c.args.items.now) c.args.body.now c.loop-at.at c.args.line.now.octets c.loop-at.line.octets c.loop-at.invariant c.loop-at-test.false c.requires.some
