use Rattle.ax_format.proofs.RecordLaws.{records_prefix_free}
use Rattle.ax_model.proofs.laws.prefix_free.Goals as goal

pub returns-clause-records : goal.returns-clause-records
returns-clause-records c = records_prefix_free
