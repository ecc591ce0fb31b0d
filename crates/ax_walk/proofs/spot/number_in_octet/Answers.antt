use Rattle.std.proofs.Common.{refl}
use Rattle.ax_walk.proofs.OctetNumbers.{in_octet}
use Rattle.ax_walk.proofs.spot.number_in_octet.Goals as goal

pub returns-clause-number : goal.returns-clause-number
returns-clause-number c = in_octet c.args.octets.now c.args.at c.args.width _ c.requires.width.0 c.requires.width.1 c.requires.within refl
