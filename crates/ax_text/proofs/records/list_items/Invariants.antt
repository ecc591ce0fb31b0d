use Rattle.std.proofs.Common.{drop}
use Rattle.ax_format.specs.Plain.{spec_tree, entries_tree}
use Rattle.ax_format.specs.Specification.{record_slots}
use Rattle.ax_text_form.specs.Printing.{as_lines}
use Rattle.ax_text_form.specs.ShowText.{entries_lines}
use Rattle.ax_text_form.specs.Slots.{slot_lines}
use Rattle.ax_text_form.proofs.EntryWays.{EntriesLeft}
use Rattle.ax_text.proofs.records.list_items.Given as goal

abbrev pub invariant-loop-entry : goal.invariant-loop-entry
invariant-loop-entry l =
    EntriesLeft as_lines (slot_lines l.path) (record_slots (spec_tree l.spec)) (entries_lines l.path 1 (record_slots (spec_tree l.spec)) (entries_tree l.entries)) l.fn.lister.out.octets l.lister.out.octets (drop l.entry-index l.entries)
