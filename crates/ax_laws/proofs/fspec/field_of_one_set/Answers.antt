use Rattle.ax_fspec.proofs.FieldLaws.{one_set}
use Rattle.ax_laws.proofs.fspec.field_of_one_set.Goals as goal

pub returns : goal.returns
returns c = one_set
