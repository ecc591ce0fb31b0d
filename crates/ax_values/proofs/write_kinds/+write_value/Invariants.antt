use Rattle.std.proofs.Common.{drop}
use Rattle.ax_format.specs.Canonical.{canon, each_canon, entries_canon}
use Rattle.ax_format.specs.Plain.{kind_tree, values_tree, slots_tree, entries_tree}
use Rattle.ax_values.proofs.NextEntry.{EntriesLeft}
use Rattle.ax_values.proofs.WrittenKinds.{EachLeft}
use Rattle.ax_values.proofs.write_kinds.+write_value.Given as goal

abbrev pub invariant-write_each-loop-value : goal.invariant-write_each-loop-value
invariant-write_each-loop-value l = EachLeft (kind_tree l.kind) l.fn.out l.out (each_canon (canon (kind_tree l.kind)) (values_tree l.values)) (drop l.value-index l.values)

abbrev pub invariant-write_entries-loop-entry : goal.invariant-write_entries-loop-entry
invariant-write_entries-loop-entry l = EntriesLeft (slots_tree l.slots) l.fn.out l.out (entries_canon 1 (slots_tree l.slots) (entries_tree l.entries)) (drop l.entry-index l.entries)
