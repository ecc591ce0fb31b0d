-- A text is octets in quotes, or it isn't.
use Rattle.std.proofs.Common.{◌≡◌, ℕ, zero, suc, ◌-◌, ◌<◌, ◌≤◌, ◌⊎◌, inl, inr, List, [], ◌∷◌, ◌++◌, length, take, Result, Ok, Err, refl, sym, ◌∙◌, ap, subst, arith, length-append}
use Rattle.std.proofs.lemmas.Bool.{cases_lt}
use Rattle.std.proofs.lemmas.List.{take_at}
use Rattle.hex.specs.Hex.{encode_lower, decode_of, IsBytes}
use Rattle.hex.specs.declared.error.FromHexError.{FromHexError}
use Rattle.hex.proofs.HexLemmas.{decode_of-encode_lower}
use Rattle.ax_bits.specs.Bits.{AreOctets}
use Rattle.ax_text_form.specs.ValueText.{hex_text}
use Rattle.ax_tokens.specs.Octets.{quote}
use Rattle.ax_laws.proofs.Readers.{IsOrNot, same_or_not}

octets_or_not : (xs : List ℕ) → IsOrNot (AreOctets xs)
octets_or_not [] = inl tt
octets_or_not (x ∷ xs) = by (cases_lt x 256) (octets_or_not xs)
  where
    by : (x < 256) ⊎ (256 ≤ x) → IsOrNot (AreOctets xs) → IsOrNot ((x < 256) × AreOctets xs)
    by (inl lt) (inl all) = inl (lt, all)
    by (inl lt) (inr n) = inr (λ h. n h.1)
    by (inr le) all = inr (λ h. let lt = h.0 in omega (arith, lt, le))

bytes : (xs : List ℕ) → AreOctets xs → IsBytes xs
bytes [] h i = omega arith
bytes (x ∷ xs) h zero = h.0
bytes (x ∷ xs) h (suc i) = bytes xs h.1 i

-- what stands between the first and the last octet
abbrev inside : List ℕ → List ℕ
inside [] = []
inside (x ∷ rest) = take (length rest - 1) rest

inside_quoted : (digits : List ℕ) → inside (quote ∷ (digits ++ quote ∷ [])) ≡ digits
inside_quoted digits = let count = length-append digits (quote ∷ []) in take_at digits (quote ∷ []) (length (digits ++ quote ∷ []) - 1) (omega (arith, count))

abbrev pub IsHex : List ℕ → Type 0
IsHex text = (octets : List ℕ) × AreOctets octets × (text ≡ hex_text octets)

ok_same : (xs ys : List ℕ) → (let r : Result (List ℕ) FromHexError = Ok xs in r) ≡ Ok ys → xs ≡ ys
ok_same xs ys e = cc

inside_is : (text : List ℕ) (h : IsHex text) → decode_of (inside text) ≡ Ok h.0
inside_is text (octets, are, e) = ap (λ t. decode_of (inside t)) e ∙ ap decode_of (inside_quoted (encode_lower octets)) ∙ decode_of-encode_lower octets (bytes octets are)

pub hex_or_not : (text : List ℕ) → IsOrNot (IsHex text)
hex_or_not text = by (decode_of (inside text)) refl
  where
    by_octets : (octets : List ℕ) → decode_of (inside text) ≡ Ok octets → IsOrNot (AreOctets octets) → IsOrNot (text ≡ hex_text octets) → IsOrNot (IsHex text)
    by_octets octets e (inl are) (inl same) = inl (octets, are, same)
    by_octets octets e (inr n) same = inr (λ h. n (subst AreOctets (ok_same h.0 octets (sym (inside_is text h) ∙ e)) h.1))
    by_octets octets e are (inr n) = inr (λ h. n (h.2 ∙ ap hex_text (ok_same h.0 octets (sym (inside_is text h) ∙ e))))

    by : (r : Result (List ℕ) FromHexError) → decode_of (inside text) ≡ r → IsOrNot (IsHex text)
    by (Ok octets) e = by_octets octets e (octets_or_not octets) (same_or_not text (hex_text octets))
    by (Err error) e = inr (λ h. absurd (let bad = sym (inside_is text h) ∙ e in cc))
