use Rattle.std.proofs.Common.{arith}
use Rattle.ax_blocks.proofs.Ends.{frames}
use Rattle.ax_blocks.proofs.framing.raw_block.Goals as goal

pub returns-clause-framed : goal.returns-clause-framed
returns-clause-framed c = frames c.args.octets.now c.args.len (omega (arith, c.type_inv.octets 1)) (omega (arith, c.type_inv.octets 2)) c.requires.least c.requires.most c.requires.counted
