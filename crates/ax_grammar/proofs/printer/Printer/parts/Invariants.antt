use Rattle.std.proofs.Common.{drop}
use Rattle.ax_grammar.proofs.Printed.{Owes, parts_texts}
use Rattle.ax_grammar.proofs.printer.Printer.parts.Given as goal

abbrev pub invariant-loop-part : goal.invariant-loop-part
invariant-loop-part l =
    Owes (parts_texts l.parts) (parts_texts (drop l.part-index l.parts)) l.initial.self l.self
