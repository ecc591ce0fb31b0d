use Rattle.ax_format.specs.Plain.{spec_tree}
use Rattle.ax_printed_lines.proofs.RecordsBuilt.{RecordsLeft}
use Rattle.ax_printed_lines.proofs.records.records_built.Given as goal

abbrev pub invariant-loop : goal.invariant-loop
invariant-loop l = RecordsLeft (spec_tree l.items) l.fn.cursor l.cursor l.fn.out l.out
