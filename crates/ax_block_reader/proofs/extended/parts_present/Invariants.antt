use Rattle.std.proofs.Common.{◌≡◌, ◌<◌, ◌+◌, length, map}
use Rattle.ax_format.specs.Plain.{part_tree}
use Rattle.ax_block_reader.proofs.PartWays.{PartsRead}
use Rattle.ax_block_reader.proofs.extended.parts_present.Given as goal

abbrev pub invariant-loop-part : goal.invariant-loop-part
invariant-loop-part l = record {
  read : PartsRead (map part_tree l.fn.parts) l.later l.lists l.part-index l.fn.reader l.reader;
  count : length l.lists ≡ l.part-index + 1;
  less : length l.reader < length l.fn.reader;
}
