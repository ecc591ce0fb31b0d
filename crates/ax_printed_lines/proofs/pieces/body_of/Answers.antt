use Rattle.std.proofs.Common.{arith}
use Rattle.ax_bits.proofs.Pieces.{AreOctets-items}
use Rattle.ax_printed_lines.proofs.pieces.body_of.Goals as goal

pub returns-clause-octets : goal.returns-clause-octets
returns-clause-octets c = AreOctets-items c.args.octets.now (λ i. (let fits = c.type_inv.octets i in omega (arith, fits)))
