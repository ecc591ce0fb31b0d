use Rattle.std.proofs.Common.{◌-◌, ◌*◌, ◌/◌, ◌^◌, arith}
use Rattle.std.proofs.lemmas.Bool.{eqb-true}
use Rattle.std.specs.Int.RustNames.{bit_xor}
use Rattle.ax_bits.proofs.Pieces.{AreOctets-items}
use Rattle.ax_printed_lines.proofs.RunsRead.{fronts_alike}
use Rattle.ax_printed_lines.proofs.runs.begin_alike.Goals as goal

pub returns : goal.returns
returns c = λ same.
    let octets = c.args.octets.now in
    let wanted = c.args.wanted.now in
    let n = c.args.count in
    let a = c.eight_in_front.result in
    let b = c.eight_in_front-2.result in
    fronts_alike n octets wanted a b (AreOctets-items octets (λ i. (let fits = c.type_inv.octets i in omega (arith, fits)))) (AreOctets-items wanted (λ i. (let fits = c.type_inv.wanted i in omega (arith, fits))))
    (c.eight_in_front.ensures (8 * n) (omega arith)) (c.eight_in_front-2.ensures (8 * n) (omega arith)) (eqb-true (bit_xor a b / 2 ^ (64 - 8 * n)) 0 same)
