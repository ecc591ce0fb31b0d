use Rattle.ax_format.specs.Plain.{spec_tree}
use Rattle.ax_grammar.proofs.Printed.{spec_printed}
use Rattle.ax_grammar.proofs.printing.print_spec.Goals as goal

pub returns : goal.returns
returns c =
    spec_printed (spec_tree c.args.spec.now) c.new.result.items c.text.result.now c.add.new.self c.spec.new.self c.add-2.new.self
    c.new.ensures.items c.text.ensures c.add.ensures c.spec.ensures c.add-2.ensures c.if-failed.false
