use Rattle.std.proofs.Common.{arith}
use Rattle.ax_bits.proofs.Pieces.{AreOctets-items}
use Rattle.ax_vectors.proofs.blocks.block_of.Goals as goal

pub returns-clause-octets : goal.returns-clause-octets
returns-clause-octets c = AreOctets-items c.args.body.now (λ i. (let fits = c.type_inv.body i in omega arith))
