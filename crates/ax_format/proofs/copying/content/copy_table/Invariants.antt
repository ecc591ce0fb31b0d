use Rattle.std.proofs.Common.{◌≡◌, take}
use Rattle.ax_format.proofs.copying.content.copy_table.Given as goal

abbrev pub invariant-loop-entry : goal.invariant-loop-entry
invariant-loop-entry l = l.made ≡ take l.entry-index l.table
