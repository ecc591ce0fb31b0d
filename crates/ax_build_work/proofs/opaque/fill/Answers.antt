use Rattle.std.proofs.Common.{arith}
use Rattle.ax_format.specs.CanonicalOctets.{framed}
use Rattle.ax_values.proofs.WrittenBlocks.{same_octets}
use Rattle.ax_build_work.proofs.opaque.fill.Goals as goal

pub returns : goal.returns
returns c = same_octets c.write_over.new.buffer (framed c.args.category c.args.octets.now) (λ i. (let fits = c.type_inv.buffer i in omega arith)) c.write_over.ensures.octets c.write_over.ensures.bits
