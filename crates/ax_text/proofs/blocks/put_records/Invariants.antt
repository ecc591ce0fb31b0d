use Rattle.std.proofs.Common.{drop}
use Rattle.ax_format.specs.Plain.{spec_tree, records_tree}
use Rattle.ax_text_form.specs.BlockText.{records_onto}
use Rattle.ax_text.proofs.RecordTexts.{RecordsLeft}
use Rattle.ax_text.proofs.blocks.put_records.Given as goal

abbrev pub invariant-loop-one : goal.invariant-loop-one
invariant-loop-one l = RecordsLeft (spec_tree l.spec) (records_onto (spec_tree l.spec) (records_tree l.records)) l.fn.line.items l.line.items (drop l.one-index l.records)
