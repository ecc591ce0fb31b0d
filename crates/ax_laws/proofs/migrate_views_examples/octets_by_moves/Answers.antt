use Rattle.std.proofs.Common.{refl}
use Rattle.ax_fspec.specs.Fields.{least_field}
use Rattle.ax_fspec.specs.Marks.{no_marks}
use Rattle.ax_laws.proofs.migrate_views_examples.octets_by_moves.Goals as goal

pub returns-clause-moved : goal.returns-clause-moved
unfolding least_field no_marks
returns-clause-moved c = refl

pub returns-clause-none : goal.returns-clause-none
unfolding least_field no_marks
returns-clause-none c = refl

pub returns-clause-empty : goal.returns-clause-empty
unfolding least_field no_marks
returns-clause-empty c = refl
