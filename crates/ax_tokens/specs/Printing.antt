-- Tokens as they are printed, with one space between.
use Rattle.std.specs.Prelude.{ℕ, ◌+◌, List, [], ◌∷◌, length, map}
use Rattle.std.specs.List.{AllByRecursion, join_with_byte}
use Rattle.ax_tokens.specs.PlainToken.{PlainToken}
use Rattle.ax_tokens.specs.Lexing.{IsTokenText}
use Rattle.ax_tokens.specs.declared.token.TokenKind.{TokenKind}

-- each is a kind with the octets of a token of that kind
abbrev pub AreTokenTexts : List (TokenKind × List ℕ) → Type 0
AreTokenTexts = AllByRecursion (λ t. IsTokenText t.0 t.1)

-- the octets of the tokens, with one space between each two
abbrev pub spaced : List (TokenKind × List ℕ) → List ℕ
spaced ts = join_with_byte 0x20 (map (λ t. t.1) ts)

-- the tokens with their spans in that text, where the first begins at place `at`
abbrev pub placed : ℕ → List (TokenKind × List ℕ) → List PlainToken
placed at [] = []
placed at (t ∷ ts) = record { kind = t.0; text = t.1; from = at; to = at + length t.1 } ∷ placed (at + length t.1 + 1) ts
