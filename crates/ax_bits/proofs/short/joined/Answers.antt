use Rattle.std.proofs.Common.{◌<◌, arith}
use Rattle.ax_bits.proofs.ShortNumbers.{joined_more}
use Rattle.ax_bits.proofs.short.joined.Goals as goal

pub loop-octet-preserved : goal.loop-octet-preserved
loop-octet-preserved c =
    let k = c.loop-octet.octet-index in
    let fits = c.type_inv.octets k in
    let below : c.from.result < 256 = omega (arith, c.from.ensures, fits) in
    joined_more c.args.octets.now k c.loop-octet.number c.from.result c.loop-octet.invariant c.loop-octet-test.true c.requires c.from.ensures below
