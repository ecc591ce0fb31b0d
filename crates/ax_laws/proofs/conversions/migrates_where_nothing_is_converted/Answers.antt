use Rattle.ax_rescale.proofs.NothingConverted.{record_moves, not_convertible, missed_are_lost}
use Rattle.ax_laws.proofs.conversions.migrates_where_nothing_is_converted.Goals as goal

pub returns-clause-record : goal.returns-clause-record
returns-clause-record c = record_moves

pub returns-clause-present : goal.returns-clause-present
returns-clause-present c = λ old new entries key entry quiet e. not_convertible old new entries quiet key entry e

pub returns-clause-missed : goal.returns-clause-missed
returns-clause-missed c = missed_are_lost
