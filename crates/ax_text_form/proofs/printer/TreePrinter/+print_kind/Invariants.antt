use Rattle.std.proofs.Common.{drop}
use Rattle.ax_format.specs.Plain.{kind_tree, values_tree, slots_tree, entries_tree}
use Rattle.ax_format.specs.Shape.{Shape}
use Rattle.ax_text_form.specs.ValueText.{kind_onto, each_onto, entries_onto}
use Rattle.ax_text_form.specs.Printing.{after_spaces}
use Rattle.ax_text_form.specs.Slots.{slot_onto}
use Rattle.ax_text_form.proofs.EntryWays.{EntriesLeft}
use Rattle.ax_text_form.proofs.KindWays.{EachLeft}
use Rattle.ax_text_form.proofs.printer.TreePrinter.+print_kind.Given as goal

abbrev pub invariant-each-loop-value : goal.invariant-each-loop-value
invariant-each-loop-value l =
    EachLeft (Shape (kind_tree l.kind)) (kind_onto (kind_tree l.kind)) (each_onto (kind_onto (kind_tree l.kind)) (values_tree l.values)) l.fn.self.out.items l.self.out.items (drop l.value-index l.values)

abbrev pub invariant-entries-loop-entry : goal.invariant-entries-loop-entry
invariant-entries-loop-entry l = EntriesLeft after_spaces slot_onto (slots_tree l.slots) (entries_onto 1 (slots_tree l.slots) (entries_tree l.entries)) l.fn.self.out.items l.self.out.items (drop l.entry-index l.entries)
