use Rattle.ax_format.proofs.BodyPlaces.{body_completes}
use Rattle.ax_model.proofs.laws.body_completes.Goals as goal

pub returns : goal.returns
returns c = body_completes
