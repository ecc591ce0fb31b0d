use Rattle.std.proofs.Common.{◌≡◌, ◌+◌, ◌*◌, ◌≤◌, length, take}
use Rattle.ax_bits.specs.Bits.{bits}
use Rattle.ax_text_lines.proofs.StepsPrinted.{StepsPrinted}
use Rattle.ax_text_lines.proofs.step_texts.put_steps.Given as goal

abbrev pub invariant-loop-step : goal.invariant-loop-step
invariant-loop-step l = record {
  printed : StepsPrinted l.steps l.step-index (bits l.body) l.at l.bit (take l.place l.fn.room) (take l.end l.room);
  few : l.end ≤ l.place + 72 * l.step-index;
  whole : length l.room ≡ length l.fn.room;
}
