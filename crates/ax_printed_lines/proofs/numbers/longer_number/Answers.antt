use Rattle.std.proofs.Common.{decimal}
use Rattle.ax_tokens.specs.declared.token.TokenKind.TheVariants.{Word}
use Rattle.ax_printed_lines.proofs.Separators.{stands_there}
use Rattle.ax_printed_lines.proofs.numbers.longer_number.Goals as goal

pub returns-clause-number : goal.returns-clause-number
returns-clause-number c =
    stands_there Word (decimal c.in_ok-number.number) c.in_ok-number.following.now c.args.octets.now c.in_ok-left.left.now c.in_ok-number.ensures.digits c.in_ok-left.ensures.gap c.in_ok-left.ensures.ended
