use Rattle.ax_format.specs.Plain.{fixed_tree}
use Rattle.ax_printed_lines.proofs.ListsBuilt.{RunLeft}
use Rattle.ax_printed_lines.proofs.fixed.run_built.Given as goal

abbrev pub invariant-loop : goal.invariant-loop
invariant-loop l = RunLeft (fixed_tree l.held.fixed.now) l.fn.cursor l.cursor l.fn.out l.out
