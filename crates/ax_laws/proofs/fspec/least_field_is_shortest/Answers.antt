use Rattle.ax_fspec.proofs.FieldLaws.{least_field_marks, shortest}
use Rattle.ax_laws.proofs.fspec.least_field_is_shortest.Goals as goal

pub returns : goal.returns
returns c = record { is_field = least_field_marks; shortest = shortest }
