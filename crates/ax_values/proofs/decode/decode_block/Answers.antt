use Rattle.std.proofs.Common.{◌≡◌, ap}
use Rattle.ax_bits.specs.Bits.{bits}
use Rattle.ax_format.proofs.Once.{body_once, body_never_both}
use Rattle.ax_format.specs.Blocks.{read_block}
use Rattle.ax_format.specs.Plain.{spec_tree, records_tree, block_tree}
use Rattle.ax_values.proofs.Honest.{honest_block}
use Rattle.ax_values.proofs.RecordSlots.{err_spelled, err_faulty}
use Rattle.ax_values.proofs.decode.decode_block.Goals as goal

pub returns-in_err-records-clause-honest : goal.returns-in_err-records-clause-honest
returns-in_err-records-clause-honest c =
    honest_block (spec_tree c.args.spec.now) c.args.raw.now.body.now c.from_residual-in_err-records.result c.in_err-records.field-0.0 c.requires.spec c.from_residual-in_err-records.ensures.1 c.in_err-records.ensures.fault

pub returns-in_err-records-clause-where_spelled : goal.returns-in_err-records-clause-where_spelled
returns-in_err-records-clause-where_spelled c records e s =
    err_spelled (spec_tree c.args.spec.now) c.args.raw.now.body.now (λ block. block_tree block ≡ read_block c.args.raw.now.category records) c.from_residual-in_err-records.result c.in_err-records.field-0.0 c.from_residual-in_err-records.ensures.1 c.in_err-records.ensures.fault records s

pub returns-in_err-records-clause-where_faulty : goal.returns-in_err-records-clause-where_faulty
returns-in_err-records-clause-where_faulty c fault e s =
    err_faulty (spec_tree c.args.spec.now) c.args.raw.now.body.now c.from_residual-in_err-records.result c.in_err-records.field-0.0 c.from_residual-in_err-records.ensures.1 c.in_err-records.ensures.fault fault s

pub returns-clause-where_spelled : goal.returns-clause-where_spelled
returns-clause-where_spelled c records e s =
    ap (λ rs. read_block c.args.raw.now.category rs) (body_once (spec_tree c.args.spec.now) (bits c.args.raw.now.body.now) (records_tree c.in_ok-records.records) records c.in_ok-records.ensures.records s)

pub returns-clause-where_faulty : goal.returns-clause-where_faulty
returns-clause-where_faulty c fault e s =
    body_never_both (spec_tree c.args.spec.now) (bits c.args.raw.now.body.now) (records_tree c.in_ok-records.records) fault.bit fault.cause c.in_ok-records.ensures.records s.fails
