-- Texts that are printed one after the other.
use Rattle.std.proofs.Common.{◌≡◌, ℕ, ◌+◌, ◌<◌, List, [], ◌∷◌, ◌++◌, length, drop, get_or, drop-cons, add-one, refl, sym, ◌∙◌, ap, append_assoc, append-nil}
use Rattle.std.specs.List.{join_with_byte}
use Rattle.hex.specs.Hex.{encode_lower}
use Rattle.ax_text_form.specs.Printing.{after_spaces, Puts}
use Rattle.ax_text_form.specs.ValueText.{Texts, opening, closing, one_onto, in_braces, hex_text}

-- ---- one text

pub text_put : (old mid new text : List ℕ) → mid ≡ old ++ 0x20 ∷ [] → new ≡ mid ++ text → Puts after_spaces (one_onto text) old new
text_put old mid new text e f = record { put = λ rest. ap (λ t. t ++ after_spaces rest) (f ∙ ap (λ t. t ++ text) e) ∙ append_assoc (old ++ 0x20 ∷ []) text (after_spaces rest) ∙ append_assoc old (0x20 ∷ []) (text ++ after_spaces rest) }

pub hex_put : (old a b c digits octets : List ℕ) → a ≡ old ++ 0x20 ∷ 0x22 ∷ [] → digits ≡ encode_lower octets → b ≡ a ++ digits → c ≡ b ++ 0x22 ∷ [] → Puts after_spaces (one_onto (hex_text octets)) old c
hex_put old a b c digits octets e d f g = record {
  put = λ rest. ap (λ t. t ++ after_spaces rest) (g ∙ ap (λ t. t ++ 0x22 ∷ []) (f ∙ (λ i. e i ++ d i))) ∙ append_assoc ((old ++ 0x20 ∷ 0x22 ∷ []) ++ encode_lower octets) (0x22 ∷ []) (after_spaces rest)
      ∙ append_assoc (old ++ 0x20 ∷ 0x22 ∷ []) (encode_lower octets) (0x22 ∷ after_spaces rest) ∙ append_assoc old (0x20 ∷ 0x22 ∷ []) (encode_lower octets ++ 0x22 ∷ after_spaces rest)
      ∙ ap (λ t. old ++ 0x20 ∷ 0x22 ∷ t) (sym (append_assoc (encode_lower octets) (0x22 ∷ []) (after_spaces rest)));
}

-- ---- texts after others

abbrev pub nothing : Texts → Texts
nothing rest = rest

pub none_put : {form : Texts → List ℕ} (out : List ℕ) → Puts form nothing out out
none_put {form} out = record { put = λ rest. refl }

pub both_put : {form : Texts → List ℕ} (f g : Texts → Texts) (a b c : List ℕ) → Puts form f a b → Puts form g b c → Puts form (λ rest. f (g rest)) a c
both_put {form} f g a b c h k = record { put = λ rest. k.put rest ∙ h.put (g rest) }

pub braces_put : {form : Texts → List ℕ} (f : Texts → Texts) (a b c d : List ℕ) → Puts form (one_onto opening) a b → Puts form f b c → Puts form (one_onto closing) c d → Puts form (in_braces f) a d
braces_put {form} f a b c d h k l = record { put = λ rest. l.put rest ∙ k.put (closing ∷ rest) ∙ h.put (f (closing ∷ rest)) }

-- of the whole texts, these are left
pub record Leaves (form : Texts → List ℕ) (whole left : Texts → Texts) (old now : List ℕ) : Type 0 where
  pub left_after : (rest : Texts) → now ++ form (left rest) ≡ old ++ form (whole rest)

pub leaves_all : {form : Texts → List ℕ} (whole : Texts → Texts) (out : List ℕ) → Leaves form whole whole out out
leaves_all {form} whole out = record { left_after = λ rest. refl }

pub leaves_fewer : {form : Texts → List ℕ} (whole left one later : Texts → Texts) (old now new : List ℕ) → Leaves form whole left old now → ((rest : Texts) → left rest ≡ one (later rest)) → Puts form one now new → Leaves form whole later old new
leaves_fewer {form} whole left one later old now new h e p = record { left_after = λ rest. p.put (later rest) ∙ ap (λ t. now ++ form t) (sym (e rest)) ∙ h.left_after rest }

pub leaves_none : {form : Texts → List ℕ} (whole left : Texts → Texts) (old now : List ℕ) → Leaves form whole left old now → ((rest : Texts) → left rest ≡ rest) → Puts form whole old now
leaves_none {form} whole left old now h e = record { put = λ rest. ap (λ t. now ++ form t) (sym (e rest)) ∙ h.left_after rest }

pub from_place : {X : Type 0} (xs : List X) (i : ℕ) (x : X) → i < length xs → x ≡ get_or xs i x → drop i xs ≡ x ∷ drop (i + 1) xs
from_place xs i x lt e = drop-cons xs i x lt ∙ (λ k. sym e k ∷ drop (sym (add-one i) k) xs)

-- ---- a whole line

pub joined : (text : List ℕ) (texts : Texts) → join_with_byte 0x20 (text ∷ texts) ≡ text ++ after_spaces texts
joined text [] = sym (append-nil text)
joined text (next ∷ texts) = ap (λ t. text ++ (0x20 ∷ t)) (joined next texts)

-- a first text and others that were put after it
pub line_put : (text : List ℕ) (onto : Texts → Texts) (a b : List ℕ) → a ≡ text → Puts after_spaces onto a b → b ≡ join_with_byte 0x20 (text ∷ onto [])
line_put text onto a b e p = sym (append-nil b) ∙ p.put [] ∙ ap (λ t. t ++ after_spaces (onto [])) e ∙ sym (joined text (onto []))
