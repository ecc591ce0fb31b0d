-- What tokens spell, and which is the first bad one where they spell nothing.
use Rattle.std.specs.Prelude.{◌≡◌, List}
use Rattle.ax_tokens.specs.PlainToken.{PlainToken}
use Rattle.ax_tokens.specs.Stopping.{texts_of}
use Rattle.ax_tokens.specs.FirstBad.{FirstBad}
use Rattle.ax_expressions.specs.Tree.{ExprTree}
use Rattle.ax_expressions.specs.Spelling.{InForm, expr_texts, IsExpr}
use Rattle.ax_expressions.specs.declared.syntax.ExprSyntaxError.{ExprSyntaxError}
use Rattle.ax_expressions.specs.declared.syntax.ExprSyntaxError.TheVariants.{BadToken, OutOfMemory}

-- the tokens are those of the expression
pub record Spells (tokens : List PlainToken) (e : ExprTree) : Type 0 where
  pub in_form : InForm e
  pub texts : texts_of tokens ≡ expr_texts e

-- the token that a refusal names; want of memory may come at any tokens
abbrev pub IsBad : List PlainToken → ExprSyntaxError → Type 0
IsBad tokens (BadToken token) = FirstBad IsExpr (texts_of tokens) token
IsBad tokens OutOfMemory = Unit {0}
