-- Octets in quotes.
use Rattle.std.proofs.Common.{◌≡◌, ℕ, zero, suc, ◌<◌, ◌≤◌, List, [], ◌∷◌, ◌++◌, length, drop, Ok, Err, refl, sym, ◌∙◌, ap, subst, arith, lit<}
use Rattle.std.specs.Prelude.{Result}
use Rattle.std.proofs.lemmas.List.{append_cancel_right}
use Rattle.hex.specs.Hex.{encode_lower, decode_of, IsBytes}
use Rattle.hex.specs.declared.error.FromHexError.{FromHexError}
use Rattle.hex.proofs.HexLemmas.{decode_of-encode_lower}
use Rattle.ax_bits.specs.Bits.{AreOctets}
use Rattle.ax_tokens.specs.Stopping.{Texts, StopsAt, IsNotFirst}
use Rattle.ax_tokens.proofs.Words.{not_first, none_first}
use Rattle.ax_tokens.specs.Octets.{quote}
use Rattle.ax_format.proofs.VariantTrees.{octets_value}
use Rattle.ax_format.specs.Plain.{value_tree}
use Rattle.ax_format.specs.Shape.{Shape}
use Rattle.ax_format.specs.Tree.{explicit, ValueTree, content_octets}
use Rattle.ax_format.specs.declared.value.Value.TheVariants.{Octets}
use Rattle.ax_text_form.proofs.Unique.{same_hex}
use Rattle.ax_text_form.specs.ValueText.{hex_text}
use Rattle.ax_block_reader.specs.Continuing.{Done, Spelled, IsRead}
use Rattle.ax_block_reader.specs.Languages.{kind_texts, IsNoDigits, IsHexText, IsNoHexText, IsContent}
use Rattle.ax_block_reader.proofs.Continuations.{tails, no_text, word_read, begin_stops}

-- ---- digits

bytes : (xs : List ℕ) → AreOctets xs → IsBytes xs
bytes [] h i = omega arith
bytes (x ∷ xs) h zero = h.0
bytes (x ∷ xs) h (suc i) = bytes xs h.1 i

abbrev decoded_to : List ℕ → Result (List ℕ) FromHexError
decoded_to octets = Ok octets

pub refused : (text : List ℕ) (e : FromHexError) → decode_of text ≡ Err e → IsNoDigits text
refused text e h octets a t = let same : decoded_to octets ≡ Err e = sym (decode_of-encode_lower octets (bytes octets a)) ∙ ap decode_of (sym t) ∙ h in absurd cc

pub other : (text octets : List ℕ) → decode_of text ≡ Ok octets → (text ≡ encode_lower octets → ⊥) → IsNoDigits text
other text octets h n xs a t =
    let same : decoded_to xs ≡ decoded_to octets = sym (decode_of-encode_lower xs (bytes xs a)) ∙ ap decode_of (sym t) ∙ h in
    let equal : xs ≡ octets = cc in
    n (t ∙ ap encode_lower equal)

pub ruleset decoded = (refused, other)

-- ---- quotes

rest_of : (a b : ℕ) (x y : List ℕ) → a ∷ x ≡ b ∷ y → x ≡ y
rest_of a b x y e = cc

pub no_digits_there : (text digits : List ℕ) → text ≡ quote ∷ (digits ++ quote ∷ []) → IsNoDigits digits → IsNoHexText text
no_digits_there text digits e n octets a t = n octets a (append_cancel_right digits (encode_lower octets) (quote ∷ []) (rest_of quote quote _ _ (sym e ∙ t)))

pub no_quotes_there : (text : List ℕ) → ((inner : List ℕ) → text ≡ quote ∷ (inner ++ quote ∷ []) → ⊥) → IsNoHexText text
no_quotes_there text n octets a t = n (encode_lower octets) t

pub digits_there : (text digits octets : List ℕ) → text ≡ quote ∷ (digits ++ quote ∷ []) → digits ≡ encode_lower octets → text ≡ hex_text octets
digits_there text digits octets e t = e ∙ ap (λ d. quote ∷ (d ++ quote ∷ [])) t

pub ruleset in_quotes = (no_digits_there, no_quotes_there, digits_there)

-- ---- the next token

pub no_hex_first : (texts : Texts) (text : List ℕ) → texts ≡ text ∷ drop 1 texts → IsNoHexText text → IsNotFirst IsHexText texts
no_hex_first texts text e n = not_first IsHexText texts text e (λ h. n h.0 h.1 h.2)

pub none_there : (texts : Texts) → texts ≡ [] → IsNotFirst IsHexText texts
none_there texts e = none_first IsHexText texts e

pub hex_there : (texts : Texts) (text octets : List ℕ) → texts ≡ text ∷ drop 1 texts → text ≡ hex_text octets → texts ≡ hex_text octets ∷ drop 1 texts
hex_there texts text octets e h = e ∙ ap (λ t. t ∷ drop 1 texts) h

pub ruleset peeking = (no_hex_first, none_there, hex_there)

-- ---- one text of octets, as a language

-- the octets of a value
abbrev octets_in : ValueTree → List ℕ
octets_in (content_octets xs) = xs
octets_in v = []

abbrev AreContent : Texts → Type 0
AreContent = Spelled IsContent (λ octets. hex_text octets ∷ [])

abbrev AreExplicit : Texts → Type 0
AreExplicit = Spelled (Shape explicit) (kind_texts explicit)

explicit_back : (t : Texts) (v : ValueTree) → Shape explicit v → t ≡ kind_texts explicit v → (octets : List ℕ) × (length octets < 255) × AreOctets octets × (t ≡ hex_text octets ∷ [])
explicit_back t (content_octets xs) h e = (xs, h.0, h.1, e)
explicit_back t v h e = absurd h

-- ---- the content of an explicit item

abbrev IsShortHex : List ℕ → Type 0
IsShortHex text = (octets : List ℕ) × (length octets < 255) × AreOctets octets × (text ≡ hex_text octets)

explicit_stops : (texts : Texts) → IsNotFirst IsShortHex texts → StopsAt AreExplicit texts texts
explicit_stops texts n =
    begin_stops AreExplicit IsShortHex (hex_text [] ∷ []) texts (content_octets [], (lit< tt, tt), refl) (λ t m. let x = explicit_back t m.0 m.1 m.2 in (hex_text x.0, [], x.3, (x.0, x.1, x.2, refl))) n

fewer : (texts : Texts) → IsNotFirst IsHexText texts → IsNotFirst IsShortHex texts
fewer [] n = tt
fewer (text ∷ texts) n = λ h. n (h.0, h.2, h.3)

pub no_explicit : (texts : Texts) → IsNotFirst IsHexText texts → StopsAt AreExplicit texts texts
no_explicit texts n = explicit_stops texts (fewer texts n)

pub long_explicit : (texts : Texts) (octets : List ℕ) → AreOctets octets → texts ≡ hex_text octets ∷ drop 1 texts → 254 < length octets → StopsAt AreExplicit texts texts
long_explicit texts octets a e gt =
    explicit_stops texts (not_first IsShortHex texts (hex_text octets) e (λ h. let same : octets ≡ h.0 = same_hex octets h.0 a h.2 h.3 in omega (arith, gt, h.1, ap length same)))

pub explicit_read : (texts : Texts) (octets : List ℕ) → AreOctets octets → texts ≡ hex_text octets ∷ drop 1 texts → length octets ≤ 254 → IsRead (Shape explicit) (kind_texts explicit) (value_tree (Octets octets)) texts (drop 1 texts)
explicit_read texts octets a e le =
    let few : length octets < 255 = omega (arith, le) in
    subst (λ v. IsRead (Shape explicit) (kind_texts explicit) v texts (drop 1 texts)) (sym (octets_value octets)) (record {
      shape = (few, a);
      split = e;
      whole = word_read AreExplicit Done (hex_text octets) texts (drop 1 texts) (λ t d. (content_octets octets, (few, a), ap (λ z. hex_text octets ∷ z) d))
          (λ m. let x = explicit_back [] m.0 m.1 m.2 in no_text (hex_text x.0) [] x.3) (λ t m. let x = explicit_back (hex_text octets ∷ t) m.0 m.1 m.2 in tails (hex_text octets) (hex_text x.0) t [] x.3) e;
    })

pub ruleset explicit_ways = (no_explicit, long_explicit, explicit_read)

-- ---- the content of an opaque block

abbrev IsSomeHex : List ℕ → Type 0
IsSomeHex text = (octets : List ℕ) × IsContent octets × (text ≡ hex_text octets)

pub content_due : AreContent (hex_text (0 ∷ []) ∷ [])
content_due = (0 ∷ [], (lit< tt, (lit< tt, tt)), refl)

content_stops : (texts : Texts) → IsNotFirst IsSomeHex texts → StopsAt AreContent texts texts
content_stops texts n = begin_stops AreContent IsSomeHex (hex_text (0 ∷ []) ∷ []) texts content_due (λ t m. (hex_text m.0, [], m.2, (m.0, m.1, refl))) n

some_fewer : (texts : Texts) → IsNotFirst IsHexText texts → IsNotFirst IsSomeHex texts
some_fewer [] n = tt
some_fewer (text ∷ texts) n = λ h. n (h.0, h.1.1, h.2)

pub no_content : (texts : Texts) → IsNotFirst IsHexText texts → StopsAt AreContent texts texts
no_content texts n = content_stops texts (some_fewer texts n)

pub empty_content : (texts : Texts) (octets : List ℕ) → AreOctets octets → texts ≡ hex_text octets ∷ drop 1 texts → length octets ≡ 0 → StopsAt AreContent texts texts
empty_content texts octets a e none =
    content_stops texts (not_first IsSomeHex texts (hex_text octets) e (λ h. let same : octets ≡ h.0 = same_hex octets h.0 a h.1.1 h.2 in omega (arith, none, h.1.0, ap length same)))

pub content_read : (texts : Texts) (octets : List ℕ) → AreOctets octets → texts ≡ hex_text octets ∷ drop 1 texts → 0 < length octets → IsRead IsContent (λ xs. hex_text xs ∷ []) octets texts (drop 1 texts)
content_read texts octets a e some = record {
  shape = (some, a);
  split = e;
  whole = word_read AreContent Done (hex_text octets) texts (drop 1 texts) (λ t d. (octets, (some, a), ap (λ z. hex_text octets ∷ z) d)) (λ m. no_text (hex_text m.0) [] m.2) (λ t m. tails (hex_text octets) (hex_text m.0) t [] m.2) e;
}

pub ruleset content_ways = (no_content, empty_content, content_read)
