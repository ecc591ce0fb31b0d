use Rattle.ax_relation.proofs.Once.{moved_migrated, migrated_once}
use Rattle.ax_relation.specs.Moved.{moved_record}
use Rattle.ax_laws.proofs.editions.migrates_once.Goals as goal

pub returns-clause-some : goal.returns-clause-some
returns-clause-some c = λ old new entries h. (moved_record old new entries, moved_migrated old new entries h)

pub returns-clause-one : goal.returns-clause-one
returns-clause-one c = migrated_once
