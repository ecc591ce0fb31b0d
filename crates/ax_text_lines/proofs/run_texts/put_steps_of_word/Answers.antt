use Rattle.std.proofs.Common.{◌∙◌, arith, take}
use Rattle.ax_text_lines.proofs.RunsPrinted.{run_goes_on}
use Rattle.ax_text_lines.proofs.run_texts.put_steps_of_word.Goals as goal

pub loop-step-preserved : goal.loop-step-preserved
loop-step-preserved c =
    let l = c.loop-step in
    let step = c.put_step_of_word-end in record {
      printed = run_goes_on c.args.steps.now l.step-index c.step-item.result c.args.run l.left (take c.args.place c.args.room.now) (take l.end l.room) l.invariant.printed c.loop-step-test.true c.step-item.is step.new.run (take step.result step.new.room)
          step.ensures.front step.ensures.moved;
      few = omega (arith, l.invariant.few, step.ensures.few);
      whole = step.ensures.whole ∙ l.invariant.whole;
    }
