use Rattle.std.proofs.Common.{drop}
use Rattle.ax_grammar.proofs.Printed.{Owes, items_texts}
use Rattle.ax_grammar.proofs.printer.Printer.items.Given as goal

abbrev pub invariant-loop-item : goal.invariant-loop-item
invariant-loop-item l =
    Owes (items_texts l.items) (items_texts (drop l.item-index l.items)) l.initial.self l.self
