use Rattle.ax_text_form.proofs.FixedWays.{some_members}
use Rattle.ax_text_form.specs.Printing.{after_spaces}
use Rattle.ax_text_form.proofs.Printed.{Leaves}
use Rattle.ax_text_form.proofs.printer.TreePrinter.+print_fixed.Given as goal

abbrev pub invariant-members-loop-member : goal.invariant-members-loop-member
invariant-members-loop-member l = Leaves after_spaces (some_members l.members l.values) (some_members l.member-iterator.a.rest.now l.member-iterator.b.rest.now) l.fn.self.out.items l.self.out.items
