-- The faults of a text: the first place at which it can't be lexed within a limit of depth.
use Rattle.std.specs.Prelude.{◌≡◌, ◌≢◌, ℕ, ◌+◌, ◌<◌, false, List, [], ◌∷◌, ◌++◌, length, IsTrue, Result, Err, ◌⊎◌}
use Rattle.std.specs.List.{list_all}
use Rattle.ax_tokens.specs.Octets.{quote, hash, open_brace, close_brace, is_separator, is_word_octet, is_string_octet}
use Rattle.ax_tokens.specs.PlainToken.{PlainToken}
use Rattle.ax_tokens.specs.Depth.{IsWithin, depth_of}
use Rattle.ax_tokens.specs.Lexing.{Lexes}
use Rattle.ax_tokens.specs.declared.token.TokenKind.TheVariants.{Open}
use Rattle.ax_tokens.specs.declared.token.LexError.{LexError}
use Rattle.ax_tokens.specs.declared.token.LexError.TheVariants.{BadByte, TooDeep, OutOfMemory}

-- neither a separator, nor the first octet of a comment or of a token
pub record BeginsNothing (octet : ℕ) : Type 0 where
  pub no_separator : is_separator octet ≡ false
  pub no_comment : octet ≢ hash
  pub no_str : octet ≢ quote
  pub no_open : octet ≢ open_brace
  pub no_close : octet ≢ close_brace
  pub no_word : is_word_octet octet ≡ false

-- what stops a Str: an octet that is none of its octets and no quote, or the end of the text
abbrev pub StopsStr : List ℕ → Type 0
StopsStr [] = Unit {0}
StopsStr (octet ∷ rest) = (is_string_octet octet ≡ false) × (octet ≢ quote)

-- the first place of the octets that fits nowhere: an octet that begins nothing, or what stops a Str that no quote ends
pub data FitsNowhere (octets : List ℕ) (place : ℕ) : Type 0 where
  begins_nothing : (octet : ℕ) (rest : List ℕ) → octets ≡ octet ∷ rest → place ≡ 0 → BeginsNothing octet → FitsNowhere octets place
  stops_str : (content rest : List ℕ) → octets ≡ quote ∷ (content ++ rest) → place ≡ 1 + length content → IsTrue (list_all is_string_octet content) → StopsStr rest → FitsNowhere octets place

-- tokens within the limit lex the text as far as an octet that fits nowhere, at this place
pub record HasBadByte (text : List ℕ) (limit place : ℕ) : Type 0 where
  pub tokens : List PlainToken
  pub front : List ℕ
  pub rest : List ℕ
  pub offset : ℕ
  pub split : text ≡ front ++ rest
  pub lexed : Lexes tokens front rest
  pub within : IsWithin limit tokens
  pub stops : FitsNowhere rest offset
  pub is_at : place ≡ length front + offset

-- the token of one open brace at a place
abbrev pub opening : ℕ → PlainToken
opening at = record { kind = Open; text = open_brace ∷ []; from = at; to = at + 1 }

-- tokens within the limit lex the text as far as an open brace, which is the token of this number and is deeper
pub record IsTooDeep (text : List ℕ) (limit number : ℕ) : Type 0 where
  pub tokens : List PlainToken
  pub front : List ℕ
  pub rest : List ℕ
  pub split : text ≡ front ++ (open_brace ∷ rest)
  pub lexed : Lexes tokens front (open_brace ∷ rest)
  pub within : IsWithin limit tokens
  pub is_numbered : number ≡ length tokens
  pub deeper : limit < depth_of (tokens ++ opening (length front) ∷ []) number

-- the fault that an error names; want of memory may come at any text
abbrev pub IsFault : List ℕ → ℕ → LexError → Type 0
IsFault text limit (BadByte place) = HasBadByte text limit place
IsFault text limit (TooDeep number) = IsTooDeep text limit number
IsFault text limit OutOfMemory = Unit {0}

-- that answer, unless memory ran out
abbrev pub IsUnlessOutOfMemory : Result (List PlainToken) LexError → Result (List PlainToken) LexError → Type 0
IsUnlessOutOfMemory result answer = (result ≡ answer) ⊎ (result ≡ Err OutOfMemory)
