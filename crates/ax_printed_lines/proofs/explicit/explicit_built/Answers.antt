use Rattle.std.proofs.Common.{◌≤◌, ◌/◌, length, arith, refl}
use Rattle.std.proofs.lemmas.Option.{IfSome_then}
use Rattle.ax_printed_lines.proofs.ExplicitBuilt.{explicit_is_built}
use Rattle.ax_printed_lines.proofs.explicit.explicit_built.Goals as goal

pub returns : goal.returns
returns c =
    let few : length c.in_ok-digits.digits.now / 2 ≤ 254 = omega arith in
    IfSome_then c.octets_built.result c.octets_built.ensures (λ done. explicit_is_built c.in_ok-digits.digits.now (length c.in_ok-digits.digits.now / 2) c.args.cursor.now c.quoted.new.self c.args.out.now c.push.new.self c.octets_built.new.out c.in_ok-digits.ensures refl few c.in_ok-push.ensures)
