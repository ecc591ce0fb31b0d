use Rattle.ax_trial.proofs.Once.{trial_once}
use Rattle.ax_laws.proofs.trial.line_once.Goals as goal

pub returns : goal.returns
returns c = trial_once
