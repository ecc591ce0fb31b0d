use Rattle.std.proofs.Common.{◌≡◌, ◌≤◌, ◌+◌, length, drop}
use Rattle.ax_format.specs.Plain.{spec_tree}
use Rattle.ax_format.specs.Specification.{record_slots}
use Rattle.ax_block_reader.proofs.EntryWays.{EntriesRead}
use Rattle.ax_text_form.proofs.SlotTrees.{slots_of_uap}
use Rattle.ax_block_reader.proofs.records.record_entries.Given as goal

abbrev pub invariant-loop-slot : goal.invariant-loop-slot
invariant-loop-slot l = record {
  read : EntriesRead (record_slots (spec_tree l.fn.items.spec.now)) (slots_of_uap l.fn.items.spec.now.items (drop l.slot-index l.fn.items.spec.now.uap)) (l.number + 1) l.entries l.initial.reader l.reader;
  number : l.number ≡ l.slot-index;
  few : length l.entries ≤ l.slot-index;
  less : length l.reader ≤ length l.initial.reader;
}
