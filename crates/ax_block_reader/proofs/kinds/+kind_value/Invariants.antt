use Rattle.std.proofs.Common.{◌≡◌, ◌≤◌, ◌+◌, ◌-◌, ◌*◌, ◌^◌, length, drop}
use Rattle.ax_format.specs.Plain.{kind_tree, slots_tree}
use Rattle.ax_format.specs.Widths.{counter_width}
use Rattle.ax_block_reader.proofs.CountedWays.{CountedRead}
use Rattle.ax_block_reader.proofs.EntryWays.{EntriesRead}
use Rattle.ax_block_reader.proofs.kinds.+kind_value.Given as goal

abbrev pub decreases-kind_value : goal.decreases-kind_value
decreases-kind_value l = 3 * length l.reader.now

abbrev pub decreases-counted_values : goal.decreases-counted_values
decreases-counted_values l = 3 * length l.reader.now + 1

abbrev pub decreases-subitem : goal.decreases-subitem
decreases-subitem l = 3 * length l.reader.now + 1

abbrev pub decreases-subitems : goal.decreases-subitems
decreases-subitems l = 3 * length l.reader.now + 2

abbrev pub invariant-counted_values-loop-alloc : goal.invariant-counted_values-loop-alloc
invariant-counted_values-loop-alloc l = record {
  read : CountedRead (2 ^ counter_width l.fn.size) (kind_tree l.kind) l.values (2 ^ counter_width l.fn.size - length l.values) l.initial.reader l.reader;
  few : length l.values ≤ l.most;
  less : length l.reader ≤ length l.initial.reader;
}

abbrev pub decreases-counted_values-loop-alloc : goal.decreases-counted_values-loop-alloc
decreases-counted_values-loop-alloc l = l.most - length l.values

abbrev pub invariant-subitems-loop-slot : goal.invariant-subitems-loop-slot
invariant-subitems-loop-slot l = record {
  read : EntriesRead (slots_tree l.fn.slots) (slots_tree (drop l.slot-index l.fn.slots)) (l.number + 1) l.entries l.initial.reader l.reader;
  number : l.number ≡ l.slot-index;
  few : length l.entries ≤ l.slot-index;
  less : length l.reader ≤ length l.initial.reader;
}
