use Rattle.std.proofs.Common.{◌+◌, drop}
use Rattle.ax_edition.specs.Numbers.{Counts}
use Rattle.ax_edition.specs.SlotItems.{items_tree}
use Rattle.ax_edition.proofs.numbers.number_slot_items.Given as goal

abbrev pub invariant-loop-place : goal.invariant-loop-place
invariant-loop-place l = Counts (l.place + 1) (items_tree (drop l.place l.items)) l.numbers
