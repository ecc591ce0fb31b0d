use Rattle.std.proofs.Common.{◌≡◌, drop}
use Rattle.ax_format.specs.Plain.{kind_tree, values_tree, slots_tree, entries_tree}
use Rattle.ax_format.specs.Shape.{Shape}
use Rattle.ax_text_form.specs.Printing.{as_lines}
use Rattle.ax_text_form.specs.ShowText.{kind_lines, each_lines, entries_lines}
use Rattle.ax_text_form.specs.Slots.{slot_lines}
use Rattle.ax_text_form.proofs.EntryWays.{EntriesLeft}
use Rattle.ax_text.proofs.ListedValues.{EachLeft}
use Rattle.ax_text.proofs.kinds.+list_kind.Given as goal

abbrev pub invariant-list_each-loop-value : goal.invariant-list_each-loop-value
invariant-list_each-loop-value l = record {
  counted : l.number ≡ l.value-index;
  left : EachLeft (Shape (kind_tree l.kind)) (kind_lines (kind_tree l.kind)) l.path (each_lines (kind_lines (kind_tree l.kind)) l.path 0 (values_tree l.values)) l.fn.lister.out.octets l.lister.out.octets
      l.value-index (drop l.value-index l.values);
}

abbrev pub invariant-list_entries-loop-entry : goal.invariant-list_entries-loop-entry
invariant-list_entries-loop-entry l =
    EntriesLeft as_lines (slot_lines l.path) (slots_tree l.slots) (entries_lines l.path 1 (slots_tree l.slots) (entries_tree l.entries)) l.fn.lister.out.octets l.lister.out.octets (drop l.entry-index l.entries)
