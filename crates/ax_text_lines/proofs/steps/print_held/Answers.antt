use Rattle.std.proofs.Common.{arith, length}
use Rattle.ax_format.specs.Plain.{fixed_tree}
use Rattle.ax_text_lines.proofs.StepsPrinted.{held_wide}
use Rattle.ax_text_lines.proofs.steps.print_held.Goals as goal

pub steps-requires-clause-width : goal.steps-requires-clause-width
steps-requires-clause-width c =
    let held = c.args.held.now in
    held_wide (fixed_tree held.fixed.now) held.steps c.in-Some.steps held.made c.in-Some.is c.args.at (length c.args.body.now) held.width held.wide c.requires.within c.requires.body

pub steps-requires-clause-within : goal.steps-requires-clause-within
steps-requires-clause-within c = omega (arith, c.args.held.now.wide, c.requires.within, c.requires.body)
