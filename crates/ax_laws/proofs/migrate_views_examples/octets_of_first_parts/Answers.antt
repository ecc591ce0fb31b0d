use Rattle.std.proofs.Common.{refl}
use Rattle.ax_fspec.specs.Fields.{least_field}
use Rattle.ax_fspec.specs.Marks.{no_marks}
use Rattle.ax_laws.proofs.migrate_views_examples.octets_of_first_parts.Goals as goal

pub returns-clause-cut : goal.returns-clause-cut
unfolding least_field no_marks
returns-clause-cut c = refl

pub returns-clause-few : goal.returns-clause-few
unfolding least_field no_marks
returns-clause-few c = refl

pub returns-clause-closed : goal.returns-clause-closed
unfolding least_field no_marks
returns-clause-closed c = refl
