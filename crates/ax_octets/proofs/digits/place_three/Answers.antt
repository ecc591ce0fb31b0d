use Rattle.ax_octets.proofs.Places.{Placed-then}
use Rattle.ax_octets.proofs.digits.place_three.Goals as goal

pub returns : goal.returns
returns c = Placed-then c.place_octet-at.ensures c.place_pair.ensures
