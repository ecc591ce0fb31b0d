use Rattle.ax_app.proofs.Commands.{trial_ran}
use Rattle.ax_app.proofs.tasks.trial.Goals as goal

pub returns : goal.returns
returns g c = trial_ran _ _ _ _ _ _ _ c.write_out.result c.in_ok-line.ensures c.deref.ensures.value c.from.ensures c.write_out.ensures
