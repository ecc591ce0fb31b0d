use Rattle.std.proofs.Common.{drop}
use Rattle.std.specs.List.{flat_map}
use Rattle.ax_grammar.specs.Spelling.{entry_texts}
use Rattle.ax_grammar.proofs.Printed.{Owes}
use Rattle.ax_grammar.proofs.printer.Printer.entries.Given as goal

abbrev pub invariant-loop-entry : goal.invariant-loop-entry
invariant-loop-entry l =
    Owes (flat_map entry_texts l.entries) (flat_map entry_texts (drop l.entry-index l.entries)) l.initial.self l.self
