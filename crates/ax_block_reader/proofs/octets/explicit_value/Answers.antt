use Rattle.std.proofs.Common.{arith}
use Rattle.ax_block_reader.proofs.Contents.{explicit_read}
use Rattle.ax_block_reader.proofs.octets.explicit_value.Goals as goal

pub returns-clause-gives : goal.returns-clause-gives
returns-clause-gives c = rw c.skip.ensures (explicit_read c.args.reader.now c.in_ok-octets.octets c.in_ok-octets.ensures.0 c.in_ok-octets.ensures.1 (omega (arith, c.count.ensures, c.if-count-gt254.false)))
