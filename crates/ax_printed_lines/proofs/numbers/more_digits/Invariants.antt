use Rattle.std.proofs.Common.{◌≤◌, ◌-◌}
use Rattle.ax_printed_lines.specs.Digits.{DigitsRead}
use Rattle.ax_printed_lines.proofs.numbers.more_digits.Given as goal

abbrev pub invariant-loop-count : goal.invariant-loop-count
invariant-loop-count l = record {
  digits : DigitsRead l.octets l.count l.number;
  few : l.count ≤ l.most;
}

abbrev pub decreases-loop-count : goal.decreases-loop-count
decreases-loop-count l = l.most - l.count
