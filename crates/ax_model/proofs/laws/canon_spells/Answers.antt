use Rattle.ax_format.proofs.RecordLaws.{flawless_record_canon_spells}
use Rattle.ax_model.proofs.laws.canon_spells.Goals as goal

pub returns-clause-records : goal.returns-clause-records
returns-clause-records c = flawless_record_canon_spells
