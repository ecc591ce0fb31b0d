use Rattle.std.proofs.Common.{drop}
use Rattle.ax_grammar.proofs.Printed.{Owes, slots_texts_of}
use Rattle.ax_grammar.proofs.printer.Printer.+print_kind.Given as goal

abbrev pub invariant-slots-loop-slot : goal.invariant-slots-loop-slot
invariant-slots-loop-slot l =
    Owes (slots_texts_of l.slots) (slots_texts_of (drop l.slot-index l.slots)) l.initial.self l.self
