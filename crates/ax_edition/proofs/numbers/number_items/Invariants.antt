use Rattle.std.proofs.Common.{◌+◌, drop}
use Rattle.ax_edition.specs.Numbers.{CountsItems}
use Rattle.ax_edition.proofs.numbers.number_items.Given as goal

abbrev pub invariant-loop-place : goal.invariant-loop-place
invariant-loop-place l = CountsItems (l.place + 1) (drop l.place l.items) l.numbers
