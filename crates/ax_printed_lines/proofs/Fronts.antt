-- Octets that begin alike.
use Rattle.std.proofs.Common.{◌≡◌, ℕ, zero, suc, ◌+◌, ◌-◌, ◌*◌, ◌/◌, ◌%◌, ◌^◌, ◌<◌, ◌≤◌, true, inl, inr, List, [], ◌∷◌, ◌++◌, length, take, drop, get_or, sym, ◌∙◌, ap, subst, arith}
use Rattle.std.proofs.lemmas.List.{take-append-drop, drop_more}
use Rattle.std.proofs.lemmas.Nat.{xor_shr}
use Rattle.std.proofs.lemmas.Nat.Bits.{same_from_bits, bit_at_xor, bit_at-zero}
use Rattle.std.specs.Int.RustNames.{bit_xor}
use Rattle.std.specs.Int.{w64, from_be_bytes}
use Rattle.ax_bits.proofs.ShortNumbers.{mask_wide, taken}
use Rattle.std.specs.Prelude.{nat_le, ◌&&◌}
use Rattle.std.specs.List.{list_all}
use Rattle.std.proofs.lemmas.Bool.{and_parts, leb-true, or_cases}
use Rattle.ax_bits.specs.Bits.{word, bits, AreOctets}
use Rattle.ax_bits.proofs.Pieces.{bits-injective, take-bits, word-low}
use Rattle.ax_format.specs.Characters.{IsName, is_name_octet}

pub octets_front : (n : ℕ) (xs : List ℕ) → AreOctets xs → AreOctets (take n xs)
octets_front zero xs h = tt
octets_front (suc n) [] h = tt
octets_front (suc n) (x ∷ xs) h = (h.0, octets_front n xs h.1)

name_octet : (x : ℕ) → is_name_octet x ≡ true → x < 256
name_octet x h =
    elim (or_cases (nat_le 65 x && nat_le x 90) (nat_le 48 x && nat_le x 57) h) [
      | inl e ↦ let p = and_parts (nat_le 65 x) (nat_le x 90) e in let b = leb-true x 90 p.1 in omega (arith, b)
      | inr e ↦ let p = and_parts (nat_le 48 x) (nat_le x 57) e in let b = leb-true x 57 p.1 in omega (arith, b)
    ]

name_octets : (text : List ℕ) → list_all is_name_octet text ≡ true → AreOctets text
name_octets [] h = tt
name_octets (x ∷ text) h = let p = and_parts (is_name_octet x) (list_all is_name_octet text) h in (name_octet x p.0, name_octets text p.1)

-- octets and a name, whose first bits spell the same number: the octets begin with the name
pub same_front : (n : ℕ) (octets padded name : List ℕ) (a b : ℕ) → AreOctets octets → IsName name → word (8 * n) a ≡ take (8 * n) (drop 0 (bits octets)) → word (8 * n) b ≡ take (8 * n) (drop 0 (bits padded)) → a ≡ b → take n padded ≡ name → take n octets ≡ name
same_front n octets padded name a b p q e f same is =
    bits-injective (take n octets) (take n padded) (octets_front n octets p) (subst AreOctets (sym is) (name_octets name q.2)) (sym (take-bits n octets) ∙ sym e ∙ ap (word (8 * n)) same ∙ f ∙ take-bits n padded) ∙ is

-- ---- a name and a space

-- the number of the first bits, out of eight octets
pub front_bits : (octets : List ℕ) (w n : ℕ) → 8 ≤ length octets → w ≤ 56 → ((i : ℕ) → get_or octets i 0 < 256)
    → n ≡ from_be_bytes w64 (get_or octets 0 0 ∷ get_or octets 1 0 ∷ get_or octets 2 0 ∷ get_or octets 3 0 ∷ get_or octets 4 0 ∷ get_or octets 5 0 ∷ get_or octets 6 0 ∷ get_or octets 7 0 ∷ []) → word w (n / 2 ^ (64 - w)) ≡ take w (bits octets)
front_bits octets w n long narrow bytes e =
    let x = n / 2 ^ (64 - w) in sym (word-low w x) ∙ ap (word w) (sym (mask_wide x w narrow)) ∙ taken octets 0 w n long narrow bytes e

pub xor_none : (a b : ℕ) → bit_xor a b ≡ 0 → a ≡ b
xor_none a b e =
    same_from_bits a b (λ i.
    let sum : bit_xor a b / 2 ^ i % 2 ≡ (a / 2 ^ i % 2 + b / 2 ^ i % 2) % 2 = bit_at_xor a b i in
    let none : bit_xor a b / 2 ^ i % 2 ≡ 0 = ap (λ n. n / 2 ^ i % 2) e ∙ bit_at-zero i in
    omega (arith, sum, none))

-- two numbers of eight octets, a name's octets after them, that differ in no bit of the name
pub named_front : (n : ℕ) (octets padded name : List ℕ) (a b : ℕ) → AreOctets octets → IsName name → word (8 * n) (a / 2 ^ (64 - 8 * n)) ≡ take (8 * n) (bits octets) → word (8 * n) (b / 2 ^ (64 - 8 * n)) ≡ take (8 * n) (bits padded) → bit_xor a b / 2 ^ (64 - 8 * n) ≡ 0 → take n padded ≡ name
    → n < length octets → get_or octets n 0 ≡ 32 → octets ≡ name ++ 32 ∷ drop (n + 1) octets
named_front n octets padded name a b h q e f none is within space =
    let k = 64 - 8 * n in
    let same : a / 2 ^ k ≡ b / 2 ^ k = xor_none (a / 2 ^ k) (b / 2 ^ k) (sym (xor_shr a b k) ∙ none) in
    let front : take n octets ≡ name = same_front n octets padded name (a / 2 ^ k) (b / 2 ^ k) h q e f same is in
    let rest : drop n octets ≡ 32 ∷ drop (n + 1) octets = drop_more octets n 0 within ∙ ap (λ x. x ∷ drop (n + 1) octets) space in
    sym (take-append-drop n octets) ∙ (λ i. front i ++ rest i)
