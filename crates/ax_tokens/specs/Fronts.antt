-- What stands at the front of octets: a gap, or a token.
use Rattle.std.specs.Prelude.{◌≡◌, ℕ, ◌≤◌, List, [], ◌∷◌, length, take, drop, false, ◌≢◌}
use Rattle.ax_tokens.specs.Octets.{hash, is_separator}
use Rattle.ax_tokens.specs.Gap.{IsGap}
use Rattle.ax_tokens.specs.Lexing.{IsTokenText, MayFollow}
use Rattle.ax_tokens.specs.declared.token.TokenKind.{TokenKind}

-- no gap begins here
abbrev pub BeginsNoGap : List ℕ → Type 0
BeginsNoGap [] = Unit {0}
BeginsNoGap (octet ∷ rest) = (is_separator octet ≡ false) × (octet ≢ hash)

-- the first n octets are a gap, as long as it can be
pub record GapInFront (octets : List ℕ) (n : ℕ) : Type 0 where
  pub inside : n ≤ length octets
  pub is_gap : IsGap (drop n octets) (take n octets)
  pub ends : BeginsNoGap (drop n octets)

-- the first n octets are a token of that kind
pub record TokenInFront (octets : List ℕ) (kind : TokenKind) (n : ℕ) : Type 0 where
  pub inside : n ≤ length octets
  pub is_text : IsTokenText kind (take n octets)
  pub follows : MayFollow kind (drop n octets)
