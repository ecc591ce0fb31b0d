use Rattle.std.proofs.Common.{◌≡◌, ◌+◌, ◌*◌, ◌≤◌, length, take}
use Rattle.ax_text_lines.proofs.RunsPrinted.{RunPrinted}
use Rattle.ax_text_lines.proofs.run_texts.put_steps_of_word.Given as goal

abbrev pub invariant-loop-step : goal.invariant-loop-step
invariant-loop-step l = record {
  printed : RunPrinted l.steps l.step-index l.run l.left (take l.place l.fn.room) (take l.end l.room);
  few : l.end ≤ l.place + 72 * l.step-index;
  whole : length l.room ≡ length l.fn.room;
}
