use Rattle.std.proofs.Common.{arith, length}
use Rattle.ax_format.specs.Plain.{fixed_tree}
use Rattle.ax_text_lines.proofs.StepsPrinted.{held_named_wide}
use Rattle.ax_text_lines.proofs.named.print_named.Goals as goal

pub steps-requires-clause-width : goal.steps-requires-clause-width
steps-requires-clause-width c =
    let item = c.args.item.now in
    held_named_wide item.name (fixed_tree item.fixed.now) item.steps c.in-Some.steps item.made c.in-Some.is c.args.at (length c.args.body.now) item.width item.wide c.requires.within c.requires.body

pub steps-requires-clause-within : goal.steps-requires-clause-within
steps-requires-clause-within c = omega (arith, c.args.item.now.wide, c.requires.within, c.requires.body)
