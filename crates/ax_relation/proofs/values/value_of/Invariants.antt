use Rattle.std.proofs.Common.{◌≡◌, drop}
use Rattle.ax_format.specs.Plain.{entries_tree}
use Rattle.ax_format.specs.At.{slot_value}
use Rattle.ax_relation.proofs.values.value_of.Given as goal

abbrev pub invariant-loop-entry : goal.invariant-loop-entry
invariant-loop-entry l = slot_value l.slot (entries_tree (drop l.entry-index l.entries)) ≡ slot_value l.slot (entries_tree l.entries)
