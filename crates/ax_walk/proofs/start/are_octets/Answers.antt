use Rattle.std.proofs.Common.{arith}
use Rattle.ax_bits.proofs.Pieces.{AreOctets-items}
use Rattle.ax_walk.proofs.start.are_octets.Goals as goal

pub returns : goal.returns
returns c = AreOctets-items c.args.octets.now (λ i. (let fits = c.type_inv.octets i in omega arith))
