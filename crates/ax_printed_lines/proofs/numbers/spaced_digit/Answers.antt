use Rattle.std.proofs.Common.{◌≡◌, ◌-◌, length, drop, get_or, length-drop, decimal, sym, subst, arith}
use Rattle.std.proofs.lemmas.List.{take_all}
use Rattle.ax_tokens.specs.declared.token.TokenKind.TheVariants.{Word}
use Rattle.ax_printed_lines.specs.Printed.{Stands}
use Rattle.ax_printed_lines.proofs.Going.{spaced_digit_stands}
use Rattle.ax_printed_lines.proofs.numbers.spaced_digit.Goals as goal

pub returns-clause-number : goal.returns-clause-number
returns-clause-number c =
    let octets = c.args.octets.now in
    let number = c.from.result in
    let is : number ≡ get_or octets 0 0 - 48 = omega (arith, c.from.ensures) in
    let space : get_or octets 1 0 ≡ 32 = omega arith in
    subst (Stands Word (decimal number) octets) (sym (take_all (length octets - 2) (drop 2 octets) (omega (arith, length-drop 2 octets)))) (spaced_digit_stands octets number (omega arith) (omega arith) (omega arith) is space)
