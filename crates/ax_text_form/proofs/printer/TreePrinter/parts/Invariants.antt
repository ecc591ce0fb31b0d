use Rattle.ax_text_form.proofs.KindWays.{some_parts}
use Rattle.ax_text_form.specs.Printing.{after_spaces}
use Rattle.ax_text_form.proofs.Printed.{Leaves}
use Rattle.ax_text_form.proofs.printer.TreePrinter.parts.Given as goal

abbrev pub invariant-loop-part : goal.invariant-loop-part
invariant-loop-part l = Leaves after_spaces (some_parts l.parts l.lists) (some_parts l.part-iterator.a.rest.now l.part-iterator.b.rest.now) l.fn.self.out.items l.self.out.items
