-- A token as a plain value, without the place of its slice in memory.
use Rattle.std.specs.Prelude.{ℕ, List, map}
use Rattle.ax_tokens.specs.declared.token.TokenKind.{TokenKind}
use Rattle.ax_tokens.specs.declared.token.Token.{Token}

-- the kind, the octets of the whole slice, the place of its first octet and the place after its last
pub record PlainToken : Type 0 where
  pub kind : TokenKind
  pub text : List ℕ
  pub from : ℕ
  pub to : ℕ

-- what a token of the program says
abbrev pub plain_token : Token → PlainToken
plain_token t = record { kind = t.kind; text = t.text.now; from = t.from; to = t.to }

-- the same of each token
abbrev pub plain_tokens : List Token → List PlainToken
plain_tokens ts = map plain_token ts
