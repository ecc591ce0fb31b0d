use Rattle.ax_app.proofs.Commands.{text_written, text_cut}
use Rattle.ax_app.proofs.tasks.write_out.Goals as goal
use Rattle.ax_app.proofs.tasks.write_out.Goals.{in-Ok, in-Err}

pub returns : goal.returns
returns g c = elim c.match-write_text.branch [
  | in-Ok w ↦ text_written _ _ _ _ _ _ _ _ _ _ _ w.in-Ok.is w.result-is c.write_text.ensures
  | in-Err w ↦ text_cut _ _ _ _ _ _ _ _ _ _ _ w.in-Err.is w.result-is c.write_text.ensures
]
