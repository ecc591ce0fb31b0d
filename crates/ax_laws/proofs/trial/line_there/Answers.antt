use Rattle.ax_laws.proofs.TrialThere.{trial_there}
use Rattle.ax_laws.proofs.trial.line_there.Goals as goal

pub returns : goal.returns
returns c = trial_there
