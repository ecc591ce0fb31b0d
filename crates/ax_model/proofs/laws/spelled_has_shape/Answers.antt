use Rattle.ax_format.proofs.RecordLaws.{record_shape}
use Rattle.ax_model.proofs.laws.spelled_has_shape.Goals as goal

pub returns-clause-records : goal.returns-clause-records
returns-clause-records c = record_shape
