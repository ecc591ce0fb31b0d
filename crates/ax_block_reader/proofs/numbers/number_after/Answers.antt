use Rattle.std.proofs.Common.{refl}
use Rattle.ax_block_reader.proofs.ShortNumbers.{next_read}
use Rattle.ax_block_reader.proofs.numbers.number_after.Goals as goal

pub loop-octet-preserved : goal.loop-octet-preserved
loop-octet-preserved c =
    rw c.from.ensures (next_read c.args.digit c.args.octets.now c.loop-octet.octet-index c.loop-octet.number _ c.in-Some.digit c.loop-octet.invariant c.loop-octet-test.true refl c.in-Some.ensures.0 c.in-Some.ensures.1)
