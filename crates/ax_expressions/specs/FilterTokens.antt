-- Tokens that are a filter over a catalogue.
use Rattle.std.specs.Prelude.{List, length}
use Rattle.ax_format.specs.Specification.{SpecTree}
use Rattle.ax_tokens.specs.Stopping.{texts_of}
use Rattle.ax_tokens.specs.PlainToken.{PlainToken}
use Rattle.ax_expressions.specs.Answers.{Spells}
use Rattle.ax_expressions.specs.Faults.{PathsLead}
use Rattle.ax_expressions.specs.Tree.{ExprTree}

-- the tokens spell the expression, and each of its paths leads over the catalogue
pub record IsFilterOf (catalogue : List SpecTree) (tokens : List PlainToken) (e : ExprTree) : Type 0 where
  pub spells : Spells tokens e
  pub lead : PathsLead catalogue (texts_of tokens) (length tokens)
