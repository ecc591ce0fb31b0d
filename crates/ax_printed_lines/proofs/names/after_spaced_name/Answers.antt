use Rattle.std.proofs.Common.{◌≡◌, ◌≤◌, ℕ, ◌+◌, ◌-◌, ◌*◌, ◌/◌, ◌^◌, ◌∷◌, ◌++◌, length, take, drop, get_or, sym, ◌∙◌, ap, subst, arith, length-drop}
use Rattle.std.specs.Int.RustNames.{bit_xor}
use Rattle.std.proofs.lemmas.List.{take_all}
use Rattle.ax_bits.proofs.Pieces.{AreOctets-items}
use Rattle.ax_printed_lines.proofs.Fronts.{named_front}
use Rattle.ax_printed_lines.proofs.names.after_spaced_name.Goals as goal

pub returns-clause-stands : goal.returns-clause-stands
returns-clause-stands c =
    let octets = c.args.octets.now in
    let name = c.args.name.now in
    let n : ℕ = length c.octets-count.result.now in
    let a = c.eight_in_front.result in
    let b = c.eight_in_front-2.result in
    let size : n ≡ length name = ap length c.octets-count.ensures.octets in
    let width : 64 - 8 * n ≤ 64 = omega arith in
    let none : bit_xor a b / 2 ^ (64 - 8 * n) ≡ 0 = omega arith in
    let space : get_or octets n 0 ≡ 32 = omega arith in
    let all : take (length octets - (n + 1)) (drop (n + 1) octets) ≡ drop (n + 1) octets = take_all _ (drop (n + 1) octets) (omega (arith, length-drop (n + 1) octets)) in
    named_front n octets c.padded.result.now name a b (AreOctets-items octets (λ i. (let fits = c.type_inv.octets i in omega (arith, fits)))) c.octets-count.ensures.name (c.eight_in_front.ensures (8 * n) (omega arith)) (c.eight_in_front-2.ensures (8 * n) (omega arith)) none
    (subst (λ k. take k c.padded.result.now ≡ name) (sym size) c.padded.ensures.front) (omega arith) space
    ∙ ap (λ k. name ++ 32 ∷ k) (sym all)
