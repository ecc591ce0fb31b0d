use Rattle.std.proofs.Common.{refl}
use Rattle.std.specs.Fmt.{digits}
use Rattle.ax_laws.proofs.migrate_work_examples.answers_to_blocks.Goals as goal

pub returns-clause-read : goal.returns-clause-read
unfolding digits
returns-clause-read c = refl
