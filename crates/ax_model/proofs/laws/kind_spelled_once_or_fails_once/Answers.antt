use Rattle.ax_model.proofs.Judged.{standing_judged, kind_judged}
use Rattle.ax_model.proofs.laws.kind_spelled_once_or_fails_once.Goals as goal

pub returns-clause-without_flaw : goal.returns-clause-without_flaw
returns-clause-without_flaw c = standing_judged

pub returns-clause-finer : goal.returns-clause-finer
returns-clause-finer c = kind_judged
