use Rattle.std.proofs.Common.{drop}
use Rattle.ax_format.specs.Canonical.{entries_canon}
use Rattle.ax_format.specs.Plain.{spec_tree, entries_tree}
use Rattle.ax_format.specs.Specification.{record_slots}
use Rattle.ax_values.proofs.NextEntry.{EntriesLeft}
use Rattle.ax_values.proofs.write_records.write_items.Given as goal

abbrev pub invariant-loop-entry : goal.invariant-loop-entry
invariant-loop-entry l = EntriesLeft (record_slots (spec_tree l.items.spec.now)) l.fn.out l.out (entries_canon 1 (record_slots (spec_tree l.items.spec.now)) (entries_tree l.entries)) (drop l.entry-index l.entries)
