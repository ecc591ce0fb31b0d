-- Numbers that bits of one octet spell.
use Rattle.std.proofs.Common.{◌≡◌, ℕ, ◌+◌, ◌-◌, ◌*◌, ◌/◌, ◌%◌, ◌^◌, ◌<◌, ◌≤◌, List, length, length-drop, take, drop, get_or, refl, sym, ◌∙◌, ap, arith, bit_and}
use Rattle.std.proofs.lemmas.List.{get_or-drop}
use Rattle.std.proofs.lemmas.Nat.{one_shl, and_mask}
use Rattle.ax_bits.proofs.Pieces.{bits_more}
use Rattle.ax_bits.proofs.ShortNumbers.{across}
use Rattle.ax_bits.specs.Bits.{word, bits}

mask : (n w : ℕ) → w ≤ 8 → bit_and n (1 * 2 ^ w % 2 ^ 32 - 1) ≡ n % 2 ^ w
mask n w h = ap (λ m. bit_and n (m - 1)) (one_shl w 32 (omega arith)) ∙ and_mask n w

first_octet : (octets : List ℕ) (i : ℕ) → i < length octets → word 8 (get_or octets i 0) ≡ bits (take 1 (drop i octets))
first_octet octets i lt = ap (λ k. word 8 (get_or octets k 0)) (let e : i ≡ i + 0 = omega arith in e) ∙ ap (word 8) (sym (get_or-drop i octets 0 0)) ∙ sym (bits_more (drop i octets) 0 (omega (arith, lt, length-drop i octets)))

pub in_octet : (octets : List ℕ) (at w n : ℕ) → 1 ≤ w → at % 8 + w ≤ 8 → at + w ≤ 8 * length octets → n ≡ get_or octets (at / 8) 0
    → word w (bit_and (n / 2 ^ (8 - at % 8 - w)) (1 * 2 ^ w % 2 ^ 32 - 1)) ≡ take w (drop at (bits octets))
in_octet octets at w n some fits within is =
    let r = 8 - at % 8 - w in
    ap (word w) (mask (n / 2 ^ r) w (omega arith))
    ∙ across octets at w (at % 8) r 1 n (omega arith) refl (ap (word 8) is ∙ first_octet octets (at / 8) (omega arith))
