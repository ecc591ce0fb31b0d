use Rattle.ax_format.specs.Plain.{kind_tree, value_tree}
use Rattle.ax_values.proofs.Exact.{is_spelled, is_faulty, where_spelled, where_faulty}
use Rattle.ax_values.proofs.Honest.{honest_kind}
use Rattle.ax_values.proofs.decode.decode_kind.Goals as goal

pub returns-clause-value : goal.returns-clause-value
returns-clause-value c = is_spelled value_tree (kind_tree c.args.kind.now) c.args.body.now c.args.at c.requires.kind c.decode_value.result c.decode_value.ensures.ok

pub returns-clause-fault : goal.returns-clause-fault
returns-clause-fault c = is_faulty value_tree (kind_tree c.args.kind.now) c.args.body.now c.args.at c.requires.kind c.decode_value.result c.decode_value.ensures.err

pub returns-clause-where_spelled : goal.returns-clause-where_spelled
returns-clause-where_spelled c = where_spelled value_tree (kind_tree c.args.kind.now) c.args.body.now c.args.at c.requires.kind c.decode_value.result c.decode_value.ensures.ok c.decode_value.ensures.err

pub returns-clause-where_faulty : goal.returns-clause-where_faulty
returns-clause-where_faulty c = where_faulty value_tree (kind_tree c.args.kind.now) c.args.body.now c.args.at c.requires.kind c.decode_value.result c.decode_value.ensures.ok c.decode_value.ensures.err

pub returns-clause-honest : goal.returns-clause-honest
returns-clause-honest c =
    let k = kind_tree c.args.kind.now in
    honest_kind k c.args.body.now c.args.at c.decode_value.result c.requires.kind (is_faulty value_tree k c.args.body.now c.args.at c.requires.kind c.decode_value.result c.decode_value.ensures.err)
