use Rattle.ax_format.proofs.Bounds.{record_bounds}
use Rattle.ax_format.specs.Plain.{spec_tree, record_tree}
use Rattle.ax_format.specs.Specification.{record_kind}
use Rattle.ax_format.specs.Tree.{marked}
use Rattle.ax_values.proofs.Exact.{is_spelled, is_faulty, where_spelled, where_faulty}
use Rattle.ax_values.proofs.RecordSlots.{record_ok, record_err, record_spelled, record_faulty}
use Rattle.ax_values.proofs.decode.decode_masked.Goals as goal

pub returns-clause-record : goal.returns-clause-record
returns-clause-record c =
    let spec = spec_tree c.args.spec.now in
    record_ok spec c.args.body.now c.args.at c.decode_entries.result (is_spelled (λ r. marked (record_tree r)) (record_kind spec) c.args.body.now c.args.at (record_bounds spec c.requires.spec) c.decode_entries.result c.decode_entries.ensures.ok)

pub returns-clause-fault : goal.returns-clause-fault
returns-clause-fault c =
    let spec = spec_tree c.args.spec.now in
    record_err spec c.args.body.now c.args.at c.decode_entries.result (is_faulty (λ r. marked (record_tree r)) (record_kind spec) c.args.body.now c.args.at (record_bounds spec c.requires.spec) c.decode_entries.result c.decode_entries.ensures.err)

pub returns-clause-where_spelled : goal.returns-clause-where_spelled
returns-clause-where_spelled c =
    let spec = spec_tree c.args.spec.now in
    record_spelled spec c.args.body.now c.args.at c.decode_entries.result
    (where_spelled (λ r. marked (record_tree r)) (record_kind spec) c.args.body.now c.args.at (record_bounds spec c.requires.spec) c.decode_entries.result c.decode_entries.ensures.ok c.decode_entries.ensures.err)

pub returns-clause-where_faulty : goal.returns-clause-where_faulty
returns-clause-where_faulty c =
    let spec = spec_tree c.args.spec.now in
    record_faulty spec c.args.body.now c.args.at c.decode_entries.result
    (where_faulty (λ r. marked (record_tree r)) (record_kind spec) c.args.body.now c.args.at (record_bounds spec c.requires.spec) c.decode_entries.result c.decode_entries.ensures.ok c.decode_entries.ensures.err)
