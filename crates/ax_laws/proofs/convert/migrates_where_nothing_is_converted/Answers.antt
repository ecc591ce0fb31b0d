use Rattle.ax_convert_work.proofs.Migrating.{answers_told, answers_spelled, each_block}
use Rattle.ax_laws.proofs.convert.migrates_where_nothing_is_converted.Goals as goal

pub returns-clause-told : goal.returns-clause-told
returns-clause-told c = answers_told

pub returns-clause-spelled : goal.returns-clause-spelled
returns-clause-spelled c = λ old new number raw block clean new_clean none h. answers_spelled old new clean new_clean number raw block none h

pub returns-clause-each : goal.returns-clause-each
returns-clause-each c = each_block
