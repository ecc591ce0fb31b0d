use Rattle.std.proofs.Common.{◌≤◌, ◌+◌, length}
use Rattle.ax_format.specs.Plain.{spec_tree}
use Rattle.ax_block_reader.proofs.RecordListWays.{RecordsRead}
use Rattle.ax_block_reader.proofs.records.records.Given as goal

abbrev pub invariant-loop-made : goal.invariant-loop-made
invariant-loop-made l = record {
  read : RecordsRead (spec_tree l.items.spec.now) l.made l.fn.reader l.reader;
  count : length l.made + length l.reader ≤ length l.fn.reader;
}

abbrev pub decreases-loop-made : goal.decreases-loop-made
decreases-loop-made l = length l.reader
