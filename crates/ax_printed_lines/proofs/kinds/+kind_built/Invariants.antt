use Rattle.std.proofs.Common.{◌≤◌, ◌+◌, ◌-◌, ◌*◌, length, drop}
use Rattle.ax_text_lines.specs.HeldText.{text_kind, text_slots}
use Rattle.ax_printed_lines.proofs.EntriesBuilt.{EntriesLeft}
use Rattle.ax_printed_lines.proofs.KindsBuilt.{EachLeft}
use Rattle.ax_printed_lines.proofs.kinds.+kind_built.Given as goal

abbrev pub decreases-kind_built : goal.decreases-kind_built
decreases-kind_built l = 3 * length l.cursor.now.left

abbrev pub decreases-counted_built : goal.decreases-counted_built
decreases-counted_built l = 3 * length l.cursor.now.left + 2

abbrev pub decreases-each_built : goal.decreases-each_built
decreases-each_built l = 3 * length l.cursor.now.left + 1

abbrev pub decreases-compound_built : goal.decreases-compound_built
decreases-compound_built l = 3 * length l.cursor.now.left + 2

abbrev pub decreases-entries_built : goal.decreases-entries_built
decreases-entries_built l = 3 * length l.cursor.now.left + 1

abbrev pub decreases-subitem_built : goal.decreases-subitem_built
decreases-subitem_built l = 3 * length l.cursor.now.left

abbrev pub invariant-each_built-loop-count : goal.invariant-each_built-loop-count
invariant-each_built-loop-count l = record {
  built : EachLeft (text_kind l.kind) l.count l.fn.cursor l.cursor l.fn.out l.out;
  few : l.count ≤ l.most;
  less : length l.cursor.left ≤ length l.fn.cursor.left;
}

abbrev pub decreases-each_built-loop-count : goal.decreases-each_built-loop-count
decreases-each_built-loop-count l = l.most - l.count

abbrev pub invariant-entries_built-loop-list : goal.invariant-entries_built-loop-list
invariant-entries_built-loop-list l = record {
  built : EntriesLeft (text_slots l.fn.slots) l.marks l.passed (text_slots (drop l.passed l.fn.slots)) l.fn.cursor l.cursor l.fn.out l.out;
  within : l.passed ≤ length l.fn.slots;
  less : length l.cursor.left ≤ length l.fn.cursor.left;
}

abbrev pub decreases-entries_built-loop-list : goal.decreases-entries_built-loop-list
decreases-entries_built-loop-list l = length l.fn.slots - l.passed
