use Rattle.std.proofs.Common.{arith}
use Rattle.ax_format.specs.OfCode.{block_octets}
use Rattle.ax_values.proofs.WrittenBlocks.{same_octets}
use Rattle.ax_values.proofs.encode.fill.Goals as goal

pub returns : goal.returns
returns c = same_octets c.write_over.new.buffer (block_octets c.args.items.now.spec.now c.args.block.now) (λ i. (let fits = c.type_inv.buffer i in omega arith)) c.write_over.ensures.octets c.write_over.ensures.bits
