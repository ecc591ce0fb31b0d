use Rattle.ax_format.proofs.Completions.{completes_octets}
use Rattle.ax_model.proofs.laws.completes.Goals as goal

pub returns : goal.returns
returns c = completes_octets
