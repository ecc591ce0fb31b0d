use Rattle.std.proofs.Common.{◌≡◌, ◌≤◌, ◌++◌, length, take}
use Rattle.ax_bits.specs.Bits.{word, bits}
use Rattle.ax_printed_lines.proofs.laid.lay_each.Given as goal

abbrev pub invariant-loop-left : goal.invariant-loop-left
invariant-loop-left l = record {
  laid : bits (take l.count l.buffer) ++ word l.left l.number ≡ bits (take l.from l.fn.buffer) ++ word l.width l.number;
  within : l.count ≤ length l.buffer;
  few : l.left ≤ l.width;
}

abbrev pub decreases-loop-left : goal.decreases-loop-left
decreases-loop-left l = l.left
