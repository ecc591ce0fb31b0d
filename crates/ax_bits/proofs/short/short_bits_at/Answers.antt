use Rattle.std.proofs.Common.{arith}
use Rattle.ax_bits.proofs.ShortNumbers.{taken}
use Rattle.ax_bits.proofs.short.short_bits_at.Goals as goal

pub returns-clause-number : goal.returns-clause-number
returns-clause-number c =
    taken c.args.octets.now c.args.at c.args.width c.from_be_bytes-number.result (omega (arith, c.if-octets-first.false)) c.requires.width.1 (λ i. let fits = c.type_inv.octets i in omega (arith, fits)) c.from_be_bytes-number.ensures
