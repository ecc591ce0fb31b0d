use Rattle.std.proofs.Common.{◌+◌, drop}
use Rattle.ax_edition.specs.Numbers.{Counts}
use Rattle.ax_format.specs.Plain.{slots_tree}
use Rattle.ax_edition.proofs.numbers.number_slots.Given as goal

abbrev pub invariant-loop-place : goal.invariant-loop-place
invariant-loop-place l = Counts (l.place + 1) (slots_tree (drop l.place l.slots)) l.numbers
