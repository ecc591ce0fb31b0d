use Rattle.std.proofs.Common.{◌≡◌, take}
use Rattle.ax_text_lines.proofs.tables.tables_of.Given as goal

abbrev pub invariant-loop-index : goal.invariant-loop-index
invariant-loop-index l = l.tables ≡ take l.index l.catalogue
