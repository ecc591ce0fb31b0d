-- Explicit items that are built.
use Rattle.std.proofs.Common.{◌≡◌, ℕ, zero, suc, ◌+◌, ◌-◌, ◌*◌, ◌/◌, ◌%◌, ◌<◌, ◌≤◌, List, [], ◌∷◌, ◌++◌, length, refl, sym, ◌∙◌, ap, arith, append_assoc}
use Rattle.hex.specs.Hex.{encode_lower, encode_with}
use Rattle.ax_printed_lines.proofs.Laying.{lays_none, lays_more}
use Rattle.ax_bits.proofs.Words.{bits-append}
use Rattle.ax_bits.specs.Bits.{word, bits, AreOctets}
use Rattle.ax_printed_lines.specs.Laid.{Lays}
use Rattle.ax_printed_lines.specs.declared.laid.LaidBits.{LaidBits}
use Rattle.ax_format.specs.Canonical.{canon}
use Rattle.ax_format.specs.Shape.{Shape}
use Rattle.ax_format.specs.Tree.{explicit, content_octets}
use Rattle.ax_text_form.specs.ValueText.{hex_text, kind_onto}
use Rattle.ax_printed_lines.specs.Printed.{Place, Goes, IsBuilt, AreDigits, digit_text}

-- ---- digits

decimal_digit : (d : ℕ) → d < 10 → digit_text d ≡ 48 + d
decimal_digit zero h = refl
decimal_digit (suc zero) h = refl
decimal_digit (suc (suc zero)) h = refl
decimal_digit (suc (suc (suc zero))) h = refl
decimal_digit (suc (suc (suc (suc zero)))) h = refl
decimal_digit (suc (suc (suc (suc (suc zero))))) h = refl
decimal_digit (suc (suc (suc (suc (suc (suc zero)))))) h = refl
decimal_digit (suc (suc (suc (suc (suc (suc (suc zero))))))) h = refl
decimal_digit (suc (suc (suc (suc (suc (suc (suc (suc zero)))))))) h = refl
decimal_digit (suc (suc (suc (suc (suc (suc (suc (suc (suc zero))))))))) h = refl
decimal_digit (suc (suc (suc (suc (suc (suc (suc (suc (suc (suc d)))))))))) h = absurd (omega (arith, h))

letter_digit : (d : ℕ) → d < 6 → digit_text (d + 10) ≡ 97 + d
letter_digit zero h = refl
letter_digit (suc zero) h = refl
letter_digit (suc (suc zero)) h = refl
letter_digit (suc (suc (suc zero))) h = refl
letter_digit (suc (suc (suc (suc zero)))) h = refl
letter_digit (suc (suc (suc (suc (suc zero))))) h = refl
letter_digit (suc (suc (suc (suc (suc (suc d)))))) h = absurd (omega (arith, h))

pub digit_here : (x d : ℕ) → 48 ≤ x → x ≤ 57 → d ≡ x - 48 → (d < 16) × (x ≡ digit_text d)
digit_here x d low high e =
    let few : d < 10 = omega arith in
    let back : x ≡ 48 + d = omega arith in (omega arith, back ∙ sym (decimal_digit d few))

pub letter_here : (x d : ℕ) → 97 ≤ x → x ≤ 102 → d ≡ x - 97 + 10 → (d < 16) × (x ≡ digit_text d)
letter_here x d low high e =
    let few : d - 10 < 6 = omega arith in
    let back : x ≡ 97 + (d - 10) = omega arith in
    let again : d - 10 + 10 ≡ d = omega arith in (omega arith, back ∙ sym (letter_digit (d - 10) few) ∙ ap digit_text again)

-- ---- octets

pub octet_here : (high low h l : ℕ) → h < 16 → high ≡ digit_text h → l < 16 → low ≡ digit_text l → (16 * h + l < 256) × (high ∷ low ∷ [] ≡ encode_lower ((16 * h + l) ∷ []))
unfolding encode_with
octet_here high low h l a e b f =
    let top : h ≡ (16 * h + l) / 16 = omega arith in
    let rest : l ≡ (16 * h + l) % 16 = omega arith in
    (omega arith, (λ i. (e ∙ ap digit_text top) i ∷ (f ∙ ap digit_text rest) i ∷ []))

-- the octets before what is left were written
pub record DigitsLeft (digits left : List ℕ) (before after : LaidBits) : Type 0 where
  pub octets : List ℕ
  pub each : AreOctets octets
  pub text : digits ≡ encode_lower octets ++ left
  pub lays : Lays before after (bits octets)

pub digits_first : (digits : List ℕ) (out : LaidBits) → DigitsLeft digits digits out out
unfolding encode_with
digits_first digits out = record { octets = []; each = tt; text = refl; lays = lays_none out }

encode_both : (a b : List ℕ) → encode_lower (a ++ b) ≡ encode_lower a ++ encode_lower b
unfolding encode_with
encode_both [] b = refl
encode_both (x ∷ a) b = ap (λ t. digit_text (x / 16) ∷ digit_text (x % 16) ∷ t) (encode_both a b)

octets_both : (a : List ℕ) (x : ℕ) → AreOctets a → x < 256 → AreOctets (a ++ x ∷ [])
octets_both [] x h lt = (lt, tt)
octets_both (y ∷ a) x h lt = (h.0, octets_both a x h.1 lt)

pub digits_next : (digits left later : List ℕ) (high low octet : ℕ) (following : List ℕ) (before mid after : LaidBits) → DigitsLeft digits left before mid → left ≡ high ∷ following → following ≡ low ∷ later → octet < 256 → high ∷ low ∷ [] ≡ encode_lower (octet ∷ []) → Lays mid after (word 8 octet)
    → DigitsLeft digits later before after
digits_next digits left later high low octet following before mid after l e f lt is a =
    let split : left ≡ (high ∷ low ∷ []) ++ later = e ∙ ap (λ t. high ∷ t) f in
    record {
      octets = l.octets ++ octet ∷ [];
      each = octets_both l.octets octet l.each lt;
      text = l.text ∙ ap (λ t. encode_lower l.octets ++ t) (split ∙ ap (λ t. t ++ later) is) ∙ sym (append_assoc (encode_lower l.octets) (encode_lower (octet ∷ [])) later) ∙ ap (λ t. t ++ later) (sym (encode_both l.octets (octet ∷ [])));
      lays = lays_more before mid after (bits l.octets) (word 8 octet) (bits (l.octets ++ octet ∷ [])) (bits-append l.octets (octet ∷ [])) l.lays a;
    }

pub digits_done : (digits left : List ℕ) (before after : LaidBits) → DigitsLeft digits left before after → left ≡ [] → AreDigits digits before after
digits_done digits left before after l e = record { octets = l.octets; each = l.each; text = l.text ∙ ap (λ t. encode_lower l.octets ++ t) e ∙ nothing (encode_lower l.octets); lays = l.lays }
  where
    nothing : (xs : List ℕ) → xs ++ [] ≡ xs
    nothing [] = refl
    nothing (x ∷ xs) = ap (λ t. x ∷ t) (nothing xs)

-- ---- the item

count_of : (octets : List ℕ) → length (encode_lower octets) ≡ 2 * length octets
unfolding encode_with
count_of [] = refl
count_of (x ∷ octets) = omega (arith, count_of octets)

pub explicit_is_built : (digits : List ℕ) (count : ℕ) (old new : Place) (before mid after : LaidBits) → ((octets : List ℕ) → AreOctets octets → digits ≡ encode_lower octets → Goes old new (hex_text octets ∷ [])) → count ≡ length digits / 2 → count ≤ 254
    → Lays before mid (word 8 (count + 1)) → AreDigits digits mid after → IsBuilt (Shape explicit) (λ v. kind_onto explicit v []) (canon explicit) old new before after
explicit_is_built digits count old new before mid after g is few a d =
    let n : count ≡ length d.octets = omega (arith, is, ap length d.text, count_of d.octets) in
    let same : count + 1 ≡ 1 + length d.octets = omega (arith, n) in
    record {
      value = content_octets d.octets;
      shape = (omega (arith, n, few), d.each);
      goes = g d.octets d.each d.text;
      lays = lays_more before mid after (word 8 (count + 1)) (bits d.octets) (word 8 (1 + length d.octets) ++ bits d.octets) (ap (λ m. word 8 m ++ bits d.octets) (sym same)) a d.lays;
    }
