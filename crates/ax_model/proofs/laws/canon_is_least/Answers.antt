use Rattle.ax_format.proofs.RecordLaws.{record_canon_shortest}
use Rattle.ax_model.proofs.laws.canon_is_least.Goals as goal

pub returns-clause-records : goal.returns-clause-records
returns-clause-records c = record_canon_shortest
