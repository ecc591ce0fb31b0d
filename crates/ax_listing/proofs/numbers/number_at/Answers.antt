use Rattle.ax_bits.specs.Bits.{bits}
use Rattle.ax_listing.proofs.Members.{number_is}
use Rattle.ax_listing.proofs.numbers.number_at.Goals as goal

pub returns-clause-value : goal.returns-clause-value
returns-clause-value c = number_is (bits c.args.from.body.now) c.args.from.at c.args.width c.short_bits_at.result c.short_bits_at.ensures.below c.short_bits_at.ensures.number
