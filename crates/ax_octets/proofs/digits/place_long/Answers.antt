use Rattle.std.proofs.Common.{arith}
use Rattle.ax_octets.proofs.Decimals.{thousands_placed}
use Rattle.ax_octets.proofs.digits.place_long.Goals as goal

pub returns-then-number-lt1000000000-clause-digits : goal.returns-then-number-lt1000000000-clause-digits
returns-then-number-lt1000000000-clause-digits c = thousands_placed c.args.number c.requires.1 (omega (arith, c.if-number-lt1000000000.true)) c.place_middle-end.ensures.digits c.place_three.ensures
