-- A reader: a function that answers the tokens of octets, or the fault. It only serves the proofs.
use Rattle.std.proofs.Common.{ℕ, zero, suc, ◌+◌, ◌-◌, Bool, false, cond, nat_lt, ◌==◌, Result, Ok, Err, List, [], ◌∷◌, ◌++◌, length, take, drop}
use Rattle.std.specs.List.{prefix_len}
use Rattle.ax_tokens.specs.Octets.{line_feed, hash, quote, open_brace, close_brace, is_separator, is_word_octet, is_string_octet}
use Rattle.ax_tokens.specs.PlainToken.{PlainToken}
use Rattle.ax_tokens.specs.Depth.{greatest_excess}
use Rattle.ax_tokens.specs.declared.token.TokenKind.{TokenKind}
use Rattle.ax_tokens.specs.declared.token.TokenKind.TheVariants.{Word, Str, Open, Close}
use Rattle.ax_tokens.specs.declared.token.LexError.{LexError}
use Rattle.ax_tokens.specs.declared.token.LexError.TheVariants.{BadByte, TooDeep, OutOfMemory}

-- what is left after the gap in front, and after the rest of a comment and the gap that it begins
abbrev mutual
  pub gap_rest : List ℕ → List ℕ
  gap_rest [] = []
  gap_rest (x ∷ xs) = cond (is_separator x) (gap_rest xs) (cond (x == hash) (comment_rest xs) (x ∷ xs))

  pub comment_rest : List ℕ → List ℕ
  comment_rest [] = []
  comment_rest (x ∷ xs) = cond (x == line_feed) (gap_rest xs) (comment_rest xs)

-- what stands in front: nothing, no token as far as that place, or a token and the octets after it
pub data Front : Type 0 where
  nothing : Front
  stop : ℕ → Front
  token : TokenKind → List ℕ → List ℕ → Front

abbrev pub str_read : List ℕ → List ℕ → Front
str_read content [] = stop (1 + length content)
str_read content (x ∷ rest) = cond (x == quote) (token Str (quote ∷ (content ++ quote ∷ [])) rest) (stop (1 + length content))

abbrev pub front_read : List ℕ → Front
front_read [] = nothing
front_read (x ∷ xs) =
    cond (x == open_brace) (token Open (x ∷ []) xs)
    (cond (x == close_brace) (token Close (x ∷ []) xs)
    (cond (x == quote) (str_read (take (prefix_len is_string_octet xs) xs) (drop (prefix_len is_string_octet xs) xs))
    (cond (is_word_octet x) (token Word (take (prefix_len is_word_octet (x ∷ xs)) (x ∷ xs)) (drop (prefix_len is_word_octet (x ∷ xs)) (x ∷ xs)))
    (stop 0))))

abbrev pub token_at : TokenKind → List ℕ → ℕ → PlainToken
token_at kind text at = record { kind = kind; text = text; from = at; to = at + length text }

-- the last of the tokens is an Open past the limit
abbrev pub is_deep : TokenKind → ℕ → List PlainToken → Bool
is_deep Open limit tokens = nat_lt limit (greatest_excess tokens)
is_deep Word limit tokens = false
is_deep Str limit tokens = false
is_deep Close limit tokens = false

abbrev pub read_on : (List PlainToken → ℕ → List ℕ → Result (List PlainToken) LexError) → ℕ → List PlainToken → ℕ → Front → Result (List PlainToken) LexError
read_on go limit before at nothing = Ok before
read_on go limit before at (stop offset) = Err (BadByte (at + offset))
read_on go limit before at (token kind text rest) =
    cond (is_deep kind limit (before ++ token_at kind text at ∷ [])) (Err (TooDeep (length before)))
    (go (before ++ token_at kind text at ∷ []) (at + length text + (length rest - length (gap_rest rest))) (gap_rest rest))

-- the answer for octets at a place, after those tokens, by fewer than n steps
abbrev pub read : ℕ → ℕ → List PlainToken → ℕ → List ℕ → Result (List PlainToken) LexError
read zero limit before at octets = Err OutOfMemory
read (suc n) limit before at octets = read_on (read n limit) limit before at (front_read octets)

-- the answer for a text
abbrev pub reading : List ℕ → ℕ → Result (List PlainToken) LexError
reading text limit = read (suc (length (gap_rest text))) limit [] (length text - length (gap_rest text)) (gap_rest text)
