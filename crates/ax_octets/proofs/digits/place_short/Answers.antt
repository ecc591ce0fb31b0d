use Rattle.ax_octets.proofs.Decimals.{one_placed, hundreds_placed}
use Rattle.ax_octets.proofs.digits.place_short.Goals as goal

pub returns-then-number-lt10-clause-digits : goal.returns-then-number-lt10-clause-digits
returns-then-number-lt10-clause-digits c = one_placed c.args.number c.if-number-lt10.true c.place_octet.ensures

pub returns-clause-digits : goal.returns-clause-digits
returns-clause-digits c = hundreds_placed c.args.number c.if-number-lt10.false c.requires.1 c.place_hundreds-at.ensures.none c.place_hundreds-at.ensures.some c.place_pair.ensures
