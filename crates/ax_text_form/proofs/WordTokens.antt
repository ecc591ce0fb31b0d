-- Single texts of a line, as tokens.
use Rattle.std.proofs.Common.{◌≡◌, ℕ, zero, suc, ◌/◌, ◌%◌, ◌^◌, ◌<◌, ◌≤◌, Bool, true, false, cond, eqb, List, [], ◌∷◌, length, slice_index, refl, ◌∙◌, ap, lit<, arith, inl, inr}
use Rattle.std.specs.Prelude.{decimal, codes}
use Rattle.std.specs.List.{AllByRecursion, list_all}
use Rattle.std.specs.Str.Parse.{AllDigits}
use Rattle.std.proofs.lemmas.Bool.{and_parts, and_from, leb-true, le-leb, ne_eqb, not_from_false, or_cases}
use Rattle.std.proofs.lemmas.Fmt.{decimal_is_IsNumeral_wide}
use Rattle.std.proofs.lemmas.Str.Parse.{digit_from_value}
use Rattle.hex.specs.Hex.{encode_with, encode_lower, lower_digits}
use Rattle.ax_bits.specs.Bits.{AreOctets}
use Rattle.ax_format.specs.Characters.{IsName, is_name_octet}
use Rattle.ax_format.specs.Paths.{three_digits}
use Rattle.ax_tokens.specs.Octets.{is_word_octet, is_string_octet}
use Rattle.ax_tokens.specs.Lexing.{IsTokenText}
use Rattle.ax_tokens.specs.declared.token.TokenKind.{TokenKind}
use Rattle.ax_tokens.specs.declared.token.TokenKind.TheVariants.{Word, Str}
use Rattle.ax_text_form.specs.Tokens.{kind_of}
use Rattle.ax_text_form.specs.ValueText.{hex_text}

-- a text that is one Word
pub record IsWord (text : List ℕ) : Type 0 where
  pub kind : kind_of text ≡ Word
  pub octets : IsTokenText Word text

-- ---- texts of digits and capital letters

abbrev IsPlain : ℕ → Type 0
IsPlain x = (48 ≤ x) × (x ≤ 90)

plain_octet : (x : ℕ) → IsPlain x → is_word_octet x ≡ true
unfolding is_word_octet
plain_octet x h =
    and_from _ _ (and_from _ _ (and_from _ _ (and_from _ _ (and_from _ _ (le-leb 33 x (omega (arith, h))) (le-leb x 126 (omega (arith, h))))
    (not_from_false _ (ne_eqb x 34 (λ e. omega (arith, h, e))))) (not_from_false _ (ne_eqb x 35 (λ e. omega (arith, h, e))))) (not_from_false _ (ne_eqb x 123 (λ e. omega (arith, h, e))))) (not_from_false _ (ne_eqb x 125 (λ e. omega (arith, h, e))))

plain_octets : (text : List ℕ) → AllByRecursion IsPlain text → list_all is_word_octet text ≡ true
plain_octets [] h = refl
plain_octets (x ∷ text) h = and_from _ _ (plain_octet x h.0) (plain_octets text h.1)

no_other : (a b c : Bool) (x y z w : TokenKind) → a ≡ false → b ≡ false → c ≡ false → cond a x (cond b y (cond c z w)) ≡ w
no_other a b c x y z w e f g = ap (λ t. cond t x (cond b y (cond c z w))) e ∙ ap (λ t. cond t y (cond c z w)) f ∙ ap (λ t. cond t z w) g

plain_word : (text : List ℕ) → 0 < length text → AllByRecursion IsPlain text → IsWord text
plain_word [] lt h = absurd (omega arith)
plain_word (x ∷ text) lt h = record {
  kind = no_other (eqb x 34) (eqb x 123) (eqb x 125) _ _ _ _ (ne_eqb x 34 (λ e. omega (arith, h.0, e))) (ne_eqb x 123 (λ e. omega (arith, h.0, e))) (ne_eqb x 125 (λ e. omega (arith, h.0, e)));
  octets = (lt, plain_octets (x ∷ text) h);
}

digits_plain : (text : List ℕ) → AllDigits 10 text → AllByRecursion IsPlain text
digits_plain [] h = tt
digits_plain (x ∷ text) h = let p = digit_from_value x h.0 in ((p.0, omega (arith, p.1)), digits_plain text h.1)

pub decimal_word : (n : ℕ) → n < 10 ^ 64 → IsWord (decimal n)
decimal_word n h = let p = (decimal_is_IsNumeral_wide n h).0 in plain_word (decimal n) p.0 (digits_plain (decimal n) p.1)

name_plain : (x : ℕ) → is_name_octet x ≡ true → IsPlain x
name_plain x h =
    elim (or_cases _ _ h) [
      | inl e ↦ let p = and_parts _ _ e in let a = leb-true 65 x p.0 in let b = leb-true x 90 p.1 in (omega (arith, a), b)
      | inr e ↦ let p = and_parts _ _ e in let a = leb-true 48 x p.0 in let b = leb-true x 57 p.1 in (a, omega (arith, b))
    ]

names_plain : (text : List ℕ) → list_all is_name_octet text ≡ true → AllByRecursion IsPlain text
names_plain [] h = tt
names_plain (x ∷ text) h = let p = and_parts _ _ h in (name_plain x p.0, names_plain text p.1)

pub name_word : (name : List ℕ) → IsName name → IsWord name
name_word name h = plain_word name (omega (arith, h.0)) (names_plain name h.2)

pub category_word : (n : ℕ) → n < 256 → IsWord (three_digits n)
category_word n h = plain_word (three_digits n) (lit< tt) ((omega arith, omega (arith, h)), ((omega arith, omega arith), ((omega arith, omega arith), tt)))

-- ---- the words of the form

pub spare_is_word : IsWord (codes "spare")
unfolding is_word_octet
spare_is_word = record { kind = refl; octets = (lit< tt, refl) }

pub part_is_word : IsWord (codes "part")
unfolding is_word_octet
part_is_word = record { kind = refl; octets = (lit< tt, refl) }

pub record_is_word : IsWord (codes "record")
unfolding is_word_octet
record_is_word = record { kind = refl; octets = (lit< tt, refl) }

pub block_is_word : IsWord (codes "block")
unfolding is_word_octet
block_is_word = record { kind = refl; octets = (lit< tt, refl) }

pub opaque_is_word : IsWord (codes "opaque")
unfolding is_word_octet
opaque_is_word = record { kind = refl; octets = (lit< tt, refl) }

-- ---- hexadecimal text

pub digit_at : (digits : List ℕ) (i : ℕ) → list_all is_string_octet digits ≡ true → i < length digits → is_string_octet (slice_index digits i) ≡ true
digit_at [] i h lt = absurd (omega arith)
digit_at (x ∷ digits) zero h lt = (and_parts _ _ h).0
digit_at (x ∷ digits) (suc i) h lt = digit_at digits i (and_parts _ _ h).1 (omega arith)

lower_string : list_all is_string_octet lower_digits ≡ true
unfolding is_string_octet
lower_string = refl

hex_octets : (octets : List ℕ) → AreOctets octets → list_all is_string_octet (encode_lower octets) ≡ true
unfolding encode_with
hex_octets [] h = refl
hex_octets (x ∷ octets) h =
    and_from _ _ (digit_at lower_digits (x / 16) lower_string (omega (arith, h.0))) (and_from _ _ (digit_at lower_digits (x % 16) lower_string (omega arith)) (hex_octets octets h.1))

pub hex_token : (octets : List ℕ) → AreOctets octets → IsTokenText Str (hex_text octets)
hex_token octets h = (encode_lower octets, refl, hex_octets octets h)
