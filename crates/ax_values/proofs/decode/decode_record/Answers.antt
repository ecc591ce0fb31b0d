use Rattle.ax_format.specs.Plain.{spec_tree}
use Rattle.ax_values.proofs.Honest.{honest_record}
use Rattle.ax_values.proofs.decode.decode_record.Goals as goal

pub returns-clause-honest : goal.returns-clause-honest
returns-clause-honest c = honest_record (spec_tree c.args.spec.now) c.args.body.now c.args.at c.decode_masked.result c.requires.spec c.decode_masked.ensures.fault
