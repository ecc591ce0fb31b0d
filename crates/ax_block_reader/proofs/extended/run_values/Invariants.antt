use Rattle.std.proofs.Common.{◌≤◌, ◌+◌, length}
use Rattle.ax_format.specs.Plain.{fixed_tree}
use Rattle.ax_block_reader.proofs.RunWays.{RunRead}
use Rattle.ax_block_reader.proofs.extended.run_values.Given as goal

abbrev pub invariant-loop-values : goal.invariant-loop-values
invariant-loop-values l = record {
  read : RunRead (fixed_tree l.fixed) l.values l.fn.reader l.reader;
  count : length l.values + length l.reader ≤ length l.fn.reader;
}

abbrev pub decreases-loop-values : goal.decreases-loop-values
decreases-loop-values l = length l.reader
