use Rattle.std.proofs.Common.{◌≤◌, ◌-◌, length, map, drop}
use Rattle.ax_text_lines.specs.HeldText.{text_part}
use Rattle.ax_printed_lines.proofs.ListsBuilt.{PartsLeft}
use Rattle.ax_printed_lines.proofs.fixed.parts_built.Given as goal

abbrev pub invariant-loop-index : goal.invariant-loop-index
invariant-loop-index l = record {
  built : PartsLeft l.fn.last (map text_part (drop l.index l.fn.parts)) (map text_part l.fn.parts) l.fn.cursor l.cursor l.fn.out l.out;
  within : l.index ≤ length l.fn.parts;
}

abbrev pub decreases-loop-index : goal.decreases-loop-index
decreases-loop-index l = length l.fn.parts - l.index
