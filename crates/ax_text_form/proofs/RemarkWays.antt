-- The ways out of the functions that print remarks.
use Rattle.std.proofs.Common.{◌≡◌, ℕ, suc, ◌-◌, ◌*◌, ◌/◌, ◌%◌, ◌^◌, ◌<◌, ◌≤◌, List, [], ◌∷◌, ◌++◌, map, refl, sym, ◌∙◌, ap, arith, append_assoc, append-nil, codes, decimal}
use Rattle.ax_tokens.specs.Octets.{quote}
use Rattle.ax_text_form.specs.Remarks.{quoted, piece_size, character, pieces_of, common_divisor, reduced_text}
use Rattle.ax_text_form.specs.declared.characters.Alphabet.{Alphabet}
use Rattle.ax_text_form.proofs.Pieces.{two_pieces, three_pieces}

pub ruleset remark_ways = two_pieces

-- ---- the end of a line

-- a text in quotes, and the line feed
pub quoted_last : (old new text : List ℕ) → new ≡ old ++ (codes " \"" ++ (text ++ codes "\"\n")) → new ≡ old ++ (codes " " ++ quoted text ++ 0x0A ∷ [])
quoted_last old new text e = e ∙ ap (λ t. old ++ (codes " \"" ++ t)) (sym (append_assoc text (quote ∷ []) (0x0A ∷ [])))

pub quantity_last : (old a b new text unit : List ℕ) → a ≡ old ++ 0x20 ∷ [] → b ≡ a ++ text → new ≡ b ++ (codes " " ++ quoted unit ++ 0x0A ∷ []) → new ≡ old ++ (codes " " ++ text ++ codes " " ++ quoted unit ++ 0x0A ∷ [])
quantity_last old a b new text unit e f g =
    three_pieces old a b new (codes " ") text (codes " " ++ quoted unit ++ 0x0A ∷ []) e f g
    ∙ ap (λ t. old ++ t) (sym (append_assoc (codes " " ++ text ++ codes " ") (quoted unit) (0x0A ∷ []) ∙ append_assoc (codes " " ++ text) (codes " ") (quoted unit ++ 0x0A ∷ [])))

pub ruleset end_ways = (two_pieces, quantity_last)

-- ---- characters

-- of a number's pieces so many are left
pub record CharactersLeft (alphabet : Alphabet) (n whole : ℕ) (old now : List ℕ) (left : ℕ) : Type 0 where
  pub few : left ≤ whole
  pub written : now ++ map (character alphabet) (pieces_of (piece_size alphabet) left n) ≡ old ++ map (character alphabet) (pieces_of (piece_size alphabet) whole n)

pub characters_first : (alphabet : Alphabet) (n whole : ℕ) (out : List ℕ) → CharactersLeft alphabet n whole out out whole
characters_first alphabet n whole out = record { few = omega arith; written = refl }

pub character_next : (alphabet : Alphabet) (n whole : ℕ) (old now new : List ℕ) (left fewer x : ℕ) → CharactersLeft alphabet n whole old now left → 0 < left → fewer ≡ left - 1
    → x ≡ character alphabet (n / 2 ^ (piece_size alphabet * fewer) % 2 ^ piece_size alphabet) → new ≡ now ++ x ∷ [] → CharactersLeft alphabet n whole old new fewer
character_next alphabet n whole old now new left fewer x h some e is f = record {
  few = omega (arith, h.few, e);
  written = ap (λ t. t ++ map (character alphabet) (pieces_of (piece_size alphabet) fewer n)) f ∙ append_assoc now (x ∷ []) (map (character alphabet) (pieces_of (piece_size alphabet) fewer n))
      ∙ ap (λ c. now ++ c ∷ map (character alphabet) (pieces_of (piece_size alphabet) fewer n)) is
      ∙ ap (λ k. now ++ map (character alphabet) (pieces_of (piece_size alphabet) k n)) (let same : suc fewer ≡ left = omega (arith, e, some) in same) ∙ h.written;
}

pub characters_last : (alphabet : Alphabet) (n whole : ℕ) (old now : List ℕ) (left : ℕ) → CharactersLeft alphabet n whole old now left → left ≡ 0 → now ≡ old ++ map (character alphabet) (pieces_of (piece_size alphabet) whole n)
characters_last alphabet n whole old now left h e = sym (append-nil now) ∙ ap (λ k. now ++ map (character alphabet) (pieces_of (piece_size alphabet) k n)) (sym e) ∙ h.written

pub ruleset character_ways = (characters_first, character_next, characters_last)

-- ---- fractions

pub fraction_put : (old a b c : List ℕ) (n m d : ℕ) → d ≡ common_divisor m n m → a ≡ old ++ decimal (n / d) → b ≡ a ++ codes "/" → c ≡ b ++ decimal (m / d) → c ≡ old ++ reduced_text n m
fraction_put old a b c n m d e f g h = three_pieces old a b c (decimal (n / d)) (codes "/") (decimal (m / d)) f g h ∙ ap (λ d. old ++ (decimal (n / d) ++ codes "/" ++ decimal (m / d))) e

-- the greatest common divisor is a power of two
pub fraction_shifted : (old new : List ℕ) (n m t : ℕ) → 2 ^ t ≡ common_divisor m n m → new ≡ old ++ (decimal (n / 2 ^ t) ++ 0x2F ∷ decimal (m / 2 ^ t)) → new ≡ old ++ reduced_text n m
fraction_shifted old new n m t e f = f ∙ ap (λ x. old ++ x) (sym (append_assoc (decimal (n / 2 ^ t)) (codes "/") (decimal (m / 2 ^ t)))) ∙ ap (λ d. old ++ (decimal (n / d) ++ codes "/" ++ decimal (m / d))) e

pub ruleset fraction_ways = (fraction_put, fraction_shifted)

pub ruleset multiple_ways = two_pieces
