use Rattle.std.proofs.Common.{drop}
use Rattle.ax_format.specs.Bodies.{CanonBody}
use Rattle.ax_format.specs.Plain.{spec_tree, records_tree}
use Rattle.ax_values.proofs.WrittenRecords.{RecordsLeft}
use Rattle.ax_values.proofs.write_records.write_body.Given as goal

abbrev pub invariant-loop-one : goal.invariant-loop-one
invariant-loop-one l = RecordsLeft (spec_tree l.items.spec.now) l.fn.out l.out (CanonBody (spec_tree l.items.spec.now) (records_tree l.records)) (drop l.one-index l.records)
