-- Texts as they are printed one after another, and the tokens that they are.
use Rattle.std.specs.Prelude.{ℕ, List, [], ◌∷◌, ◌++◌, map, if◌then◌else◌, ◌==◌}
use Rattle.ax_format.specs.Specification.{SpecTree}
use Rattle.ax_tokens.specs.Octets.{quote, open_brace, close_brace}
use Rattle.ax_tokens.specs.PlainToken.{PlainToken}
use Rattle.ax_tokens.specs.Printing.{placed}
use Rattle.ax_tokens.specs.declared.token.TokenKind.{TokenKind}
use Rattle.ax_tokens.specs.declared.token.TokenKind.TheVariants as Kind
use Rattle.ax_grammar.specs.Spelling.{spelled}

-- each text after a space
abbrev pub after_spaces : List (List ℕ) → List ℕ
after_spaces [] = []
after_spaces (text ∷ texts) = 0x20 ∷ (text ++ after_spaces texts)

-- the kind of token that a text is, by its first octet
abbrev pub kind_of : List ℕ → TokenKind
kind_of [] = Kind.Word
kind_of (octet ∷ rest) =
    if octet == quote then Kind.Str else (if octet == open_brace then Kind.Open else (if octet == close_brace then Kind.Close else Kind.Word))

-- the tokens of texts that are printed with one space between
abbrev pub printed_tokens : List (List ℕ) → List PlainToken
printed_tokens texts = placed 0 (map (λ text. (kind_of text, text)) texts)

-- the tokens of a printed specification
abbrev pub spelled_tokens : SpecTree → List PlainToken
spelled_tokens spec = printed_tokens (spelled spec)
