use Rattle.std.proofs.Common.{drop}
use Rattle.ax_grammar.proofs.Printed.{Owes, members_texts_of}
use Rattle.ax_grammar.proofs.printer.Printer.+print_fixed.Given as goal

abbrev pub invariant-members-loop-member : goal.invariant-members-loop-member
invariant-members-loop-member l =
    Owes (members_texts_of l.members) (members_texts_of (drop l.member-index l.members)) l.initial.self l.self
