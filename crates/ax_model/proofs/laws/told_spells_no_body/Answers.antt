use Rattle.ax_format.proofs.BodyPlaces.{told_spells_no_body}
use Rattle.ax_model.proofs.laws.told_spells_no_body.Goals as goal

pub returns : goal.returns
returns c = told_spells_no_body
