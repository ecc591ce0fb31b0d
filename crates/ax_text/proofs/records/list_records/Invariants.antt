use Rattle.std.proofs.Common.{◌≡◌, drop}
use Rattle.ax_format.specs.Plain.{spec_tree, records_tree}
use Rattle.ax_text_form.specs.ShowText.{records_lines}
use Rattle.ax_text.proofs.ListedRecords.{RecordsLeft}
use Rattle.ax_text.proofs.records.list_records.Given as goal

abbrev pub invariant-loop-one : goal.invariant-loop-one
invariant-loop-one l = record {
  counted : l.number ≡ l.one-index;
  left : RecordsLeft (spec_tree l.spec) (records_lines (spec_tree l.spec) 0 (records_tree l.records)) l.fn.lister.out.octets l.lister.out.octets l.one-index (drop l.one-index l.records);
}
