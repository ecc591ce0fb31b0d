use Rattle.std.proofs.Common.{◌≡◌, ◌-◌, length, drop, get_or, length-drop, sym, subst, arith}
use Rattle.std.proofs.lemmas.List.{take_all}
use Rattle.ax_printed_lines.specs.Printed.{IsAfterOctet}
use Rattle.ax_printed_lines.proofs.Separators.{spaced_octet}
use Rattle.ax_printed_lines.proofs.gaps.after_spaced.Goals as goal

pub returns : goal.returns
returns c =
    let octets = c.args.octets.now in
    let first : get_or octets 0 0 ≡ c.args.octet = omega arith in
    let space : get_or octets 1 0 ≡ 32 = omega arith in
    subst (IsAfterOctet c.args.octet octets) (sym (take_all (length octets - 2) (drop 2 octets) (omega (arith, length-drop 2 octets)))) (spaced_octet octets c.args.octet (omega arith) first space)
