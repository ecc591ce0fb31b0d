use Rattle.ax_bits.specs.Bits.{bits}
use Rattle.ax_values.proofs.FixedRead.{number_read}
use Rattle.ax_values.proofs.fixed.decode_number.Goals as goal

pub returns-clause-value : goal.returns-clause-value
returns-clause-value c = number_read (bits c.args.body.now) c.args.at.now c.args.width c.bits_at-number.result c.bits_at-number.ensures.below c.bits_at-number.ensures.number
