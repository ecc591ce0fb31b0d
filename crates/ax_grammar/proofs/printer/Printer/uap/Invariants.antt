use Rattle.std.proofs.Common.{drop}
use Rattle.std.specs.List.{flat_map}
use Rattle.ax_grammar.specs.Spelling.{uap_slot_texts}
use Rattle.ax_grammar.proofs.Printed.{Owes}
use Rattle.ax_grammar.proofs.printer.Printer.uap.Given as goal

abbrev pub invariant-loop-slot : goal.invariant-loop-slot
invariant-loop-slot l =
    Owes (flat_map uap_slot_texts l.slots) (flat_map uap_slot_texts (drop l.slot-index l.slots)) l.initial.self l.self
