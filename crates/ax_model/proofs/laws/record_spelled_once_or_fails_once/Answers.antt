use Rattle.ax_model.proofs.Judged.{records_judged, record_judged}
use Rattle.ax_model.proofs.laws.record_spelled_once_or_fails_once.Goals as goal

pub returns-clause-without_flaw : goal.returns-clause-without_flaw
returns-clause-without_flaw c = records_judged

pub returns-clause-finer : goal.returns-clause-finer
returns-clause-finer c = record_judged
