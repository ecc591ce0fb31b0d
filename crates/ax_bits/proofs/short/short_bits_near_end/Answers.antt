use Rattle.std.proofs.Common.{◌≡◌, ◌+◌, ◌-◌, ◌*◌, ◌/◌, ◌%◌, ◌^◌, ◌≤◌, ◌∙◌, ap, arith, length, take, drop, refl, sym, length-take-le, length-drop}
use Rattle.ax_bits.specs.Bits.{word}
use Rattle.ax_bits.proofs.ShortNumbers.{mask_wide, across}
use Rattle.ax_bits.proofs.short.short_bits_near_end.Goals as goal

pub returns-clause-number : goal.returns-clause-number
returns-clause-number c =
    let all = c.args.octets.now in
    let at = c.args.at in
    let w = c.args.width in
    let n = c.joined-number.result in
    let k = at / 8 + (at % 8 + w + 7) / 8 - at / 8 in
    let r = 8 * ((at % 8 + w + 7) / 8) - at % 8 - w in
    let within : k ≤ length (drop (at / 8) all) = omega (arith, c.requires.within, length-drop (at / 8) all) in
    let size : length (take k (drop (at / 8) all)) ≡ k = length-take-le k (drop (at / 8) all) within in
    ap (word w) (mask_wide (n / 2 ^ r) w c.requires.width.1)
    ∙ across all at w (at % 8) r k n (omega arith) refl (ap (λ m. word (8 * m) n) (sym size) ∙ c.joined-number.ensures.number)
