use Rattle.std.proofs.Common.{drop, take}
use Rattle.ax_bits.specs.Bits.{bits}
use Rattle.ax_text_lines.proofs.RunsPrinted.{run_put}
use Rattle.ax_text_lines.specs.Templates.{template_of}
use Rattle.ax_text_lines.proofs.run_texts.put_run.Goals as goal

pub returns-clause-front : goal.returns-clause-front
returns-clause-front c =
    run_put (template_of c.args.steps.now) c.args.run.width c.first_in_word.result (drop c.args.run.at (bits c.args.run.body.now)) (take c.args.place c.args.room.now) (take c.put_steps_of_word.result c.put_steps_of_word.new.room) c.requires.width.2 c.first_in_word.ensures
    c.put_steps_of_word.ensures.front
