-- How deep an Open token stands.
use Rattle.std.specs.Prelude.{◌≡◌, ℕ, ◌+◌, ◌-◌, ◌≤◌, max, Bool, true, false, Some, List, [], ◌∷◌, take, count_by, slice_get}
use Rattle.ax_tokens.specs.PlainToken.{PlainToken}
use Rattle.ax_tokens.specs.declared.token.TokenKind.{TokenKind}
use Rattle.ax_tokens.specs.declared.token.TokenKind.TheVariants.{Word, Str, Open, Close}

-- the kind is Open
abbrev pub is_open : TokenKind → Bool
is_open Open = true
is_open Word = false
is_open Str = false
is_open Close = false

-- the kind is Close
abbrev pub is_close : TokenKind → Bool
is_close Close = true
is_close Word = false
is_close Str = false
is_close Open = false

-- the Opens less the Closes, or 0 where there are more Closes (an Open alone has 1, so no depth is changed by that)
abbrev pub excess : List PlainToken → ℕ
excess tokens = count_by (λ t. is_open t.kind) tokens - count_by (λ t. is_close t.kind) tokens

-- the greatest of the Opens less the Closes among the tokens from number j on, over each j
abbrev pub greatest_excess : List PlainToken → ℕ
greatest_excess [] = 0
greatest_excess (t ∷ tokens) = max (excess (t ∷ tokens)) (greatest_excess tokens)

-- the depth of token number i: the greatest of the Opens less the Closes among the tokens j to i, over each j up to i
abbrev pub depth_of : List PlainToken → ℕ → ℕ
depth_of tokens i = greatest_excess (take (i + 1) tokens)

-- no Open token is deeper than the limit
abbrev pub IsWithin : ℕ → List PlainToken → Type 0
IsWithin limit tokens = (i : ℕ) (t : PlainToken) → slice_get tokens i ≡ Some t → t.kind ≡ Open → depth_of tokens i ≤ limit

-- the level after a token, from the level before it: a Close without an Open leaves it at 0
abbrev pub level_after : TokenKind → ℕ → ℕ
level_after Open level = level + 1
level_after Close level = level - 1
level_after Word level = level
level_after Str level = level

-- the level that is kept from token to token, from that level on, stays within the limit
abbrev pub KeepsWithin : ℕ → ℕ → List PlainToken → Type 0
KeepsWithin limit level [] = Unit {0}
KeepsWithin limit level (t ∷ tokens) = (level_after t.kind level ≤ limit) × KeepsWithin limit (level_after t.kind level) tokens
