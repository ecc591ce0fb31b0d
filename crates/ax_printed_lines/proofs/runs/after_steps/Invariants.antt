use Rattle.ax_printed_lines.proofs.RunsRead.{StepsRead}
use Rattle.ax_printed_lines.proofs.runs.after_steps.Given as goal

abbrev pub invariant-loop-step : goal.invariant-loop-step
invariant-loop-step l = StepsRead l.steps l.step-index l.used l.first l.bits l.octets l.left
