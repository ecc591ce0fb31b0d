use Rattle.std.proofs.Common.{ap}
use Rattle.ax_lines.proofs.AnswersOnce.{lines_complete}
use Rattle.ax_lines.proofs.Running.{memory_first}
use Rattle.ax_lines.proofs.stream.run_lines.Goals as goal

pub returns-in_default-clause-runs : goal.returns-in_default-clause-runs
returns-in_default-clause-runs g c = memory_first _ _ _ _ _ _ _ _

pub returns-clause-completes : goal.returns-clause-completes
returns-clause-completes g c = lines_complete _ _ _ _ _ _ _ _ (ap (λ r. r.line_limit) c.in-Ok.ensures) (ap (λ r. r.limit) c.in-Ok.ensures) c.drive_lines.ensures.runs
