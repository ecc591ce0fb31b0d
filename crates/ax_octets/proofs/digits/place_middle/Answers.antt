use Rattle.std.proofs.Common.{arith}
use Rattle.ax_octets.proofs.Decimals.{thousands_placed}
use Rattle.ax_octets.proofs.digits.place_middle.Goals as goal

pub returns-clause-digits : goal.returns-clause-digits
returns-clause-digits c = thousands_placed c.args.number c.requires.1 (omega (arith, c.requires)) c.place_short-end.ensures.digits c.place_three.ensures
