-- The tokens of a text.
use Rattle.std.specs.Prelude.{◌≡◌, ℕ, ◌+◌, ◌<◌, false, List, [], ◌∷◌, ◌++◌, length, IsTrue}
use Rattle.std.specs.List.{list_all}
use Rattle.ax_tokens.specs.Octets.{quote, open_brace, close_brace, is_word_octet, is_string_octet}
use Rattle.ax_tokens.specs.PlainToken.{PlainToken}
use Rattle.ax_tokens.specs.Gap.{IsGap}
use Rattle.ax_tokens.specs.Depth.{IsWithin}
use Rattle.ax_tokens.specs.declared.token.TokenKind.{TokenKind}
use Rattle.ax_tokens.specs.declared.token.TokenKind.TheVariants.{Word, Str, Open, Close}

-- the octets of a token of each kind
abbrev pub IsTokenText : TokenKind → List ℕ → Type 0
IsTokenText Word text = (0 < length text) × IsTrue (list_all is_word_octet text)
IsTokenText Str text = (content : List ℕ) × (text ≡ quote ∷ (content ++ quote ∷ [])) × IsTrue (list_all is_string_octet content)
IsTokenText Open text = text ≡ open_brace ∷ []
IsTokenText Close text = text ≡ close_brace ∷ []

-- a token has the octets of a token of its kind
abbrev pub HasTokenText : PlainToken → Type 0
HasTokenText t = IsTokenText t.kind t.text

-- octets that may follow a token: a Word is followed by no octet of a Word
abbrev pub MayFollow : TokenKind → List ℕ → Type 0
MayFollow Word [] = Unit {0}
MayFollow Word (octet ∷ rest) = is_word_octet octet ≡ false
MayFollow Str rest = Unit {0}
MayFollow Open rest = Unit {0}
MayFollow Close rest = Unit {0}

-- octets that begin at place `at` and stand in front of rest are the tokens, each followed by a gap
abbrev pub AreTokensWithGaps : ℕ → List PlainToken → List ℕ → List ℕ → Type 0
AreTokensWithGaps at [] octets rest = octets ≡ []
AreTokensWithGaps at (t ∷ tokens) octets rest =
    (gap : List ℕ) × (more : List ℕ) × (octets ≡ t.text ++ (gap ++ more))
    × (t.from ≡ at) × (t.to ≡ at + length t.text)
    × IsTokenText t.kind t.text × MayFollow t.kind (gap ++ (more ++ rest)) × IsGap (more ++ rest) gap
    × AreTokensWithGaps (t.to + length gap) tokens more rest

-- the front of a text, in front of rest, is a gap and then the tokens, each followed by a gap
pub record Lexes (tokens : List PlainToken) (front rest : List ℕ) : Type 0 where
  pub gap : List ℕ
  pub more : List ℕ
  pub split : front ≡ gap ++ more
  pub first_gap : IsGap (more ++ rest) gap
  pub each_token : AreTokensWithGaps (length gap) tokens more rest

-- the tokens lex the text, and none of them is deeper than the limit
pub record AreTokensOf (text : List ℕ) (limit : ℕ) (tokens : List PlainToken) : Type 0 where
  pub lexed : Lexes tokens text []
  pub within : IsWithin limit tokens
