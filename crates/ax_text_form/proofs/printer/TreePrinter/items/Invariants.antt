use Rattle.std.proofs.Common.{drop}
use Rattle.ax_format.specs.Plain.{spec_tree, entries_tree}
use Rattle.ax_format.specs.Specification.{record_slots}
use Rattle.ax_text_form.specs.ValueText.{entries_onto}
use Rattle.ax_text_form.specs.Printing.{after_spaces}
use Rattle.ax_text_form.specs.Slots.{slot_onto}
use Rattle.ax_text_form.proofs.EntryWays.{EntriesLeft}
use Rattle.ax_text_form.proofs.printer.TreePrinter.items.Given as goal

abbrev pub invariant-loop-entry : goal.invariant-loop-entry
invariant-loop-entry l = EntriesLeft after_spaces slot_onto (record_slots (spec_tree l.spec)) (entries_onto 1 (record_slots (spec_tree l.spec)) (entries_tree l.entries)) l.fn.self.out.items l.self.out.items (drop l.entry-index l.entries)
