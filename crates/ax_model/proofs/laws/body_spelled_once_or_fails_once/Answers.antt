use Rattle.ax_model.proofs.Judged.{body_judged}
use Rattle.ax_model.proofs.laws.body_spelled_once_or_fails_once.Goals as goal

pub returns-clause-finer : goal.returns-clause-finer
returns-clause-finer c = body_judged
