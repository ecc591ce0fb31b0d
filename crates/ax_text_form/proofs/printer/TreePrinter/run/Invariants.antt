use Rattle.std.proofs.Common.{drop}
use Rattle.ax_format.specs.Plain.{fixed_tree, values_tree}
use Rattle.ax_text_form.specs.ValueText.{fixed_onto, each_onto}
use Rattle.ax_text_form.proofs.KindWays.{EachLeft, anything}
use Rattle.ax_text_form.proofs.printer.TreePrinter.run.Given as goal

abbrev pub invariant-loop-value : goal.invariant-loop-value
invariant-loop-value l =
    EachLeft anything (fixed_onto (fixed_tree l.fixed)) (each_onto (fixed_onto (fixed_tree l.fixed)) (values_tree l.values)) l.fn.self.out.items l.self.out.items (drop l.value-index l.values)
