-- The text of an expression: the filter that it is over a catalogue, or the fault for which it is refused.
use Rattle.std.specs.Prelude.{ℕ, List}
use Rattle.ax_format.specs.Specification.{SpecTree}
use Rattle.ax_tokens.specs.Stopping.{texts_of}
use Rattle.ax_tokens.specs.Faults.{HasBadByte, IsTooDeep}
use Rattle.ax_tokens.specs.Lexing.{AreTokensOf}
use Rattle.ax_tokens.specs.PlainToken.{PlainToken}
use Rattle.ax_tokens.specs.declared.token.LexError.{LexError}
use Rattle.ax_tokens.specs.declared.token.LexError.TheVariants as LexErrorOf
use Rattle.ax_expressions.specs.Faults.{IsFault}
use Rattle.ax_expressions.specs.FilterTokens.{IsFilterOf}
use Rattle.ax_expressions.specs.Tree.{ExprTree}
use Rattle.ax_expressions.specs.declared.error.FilterError.{FilterError}
use Rattle.ax_expressions.specs.declared.error.FilterError.TheVariants as FilterErrorOf
use Rattle.ax_expressions.specs.declared.stop.FilterFault.{FilterFault}
use Rattle.ax_expressions.specs.declared.stop.FilterFault.TheVariants.{BadByte, TooDeep, BadToken, UnknownPath, NotAnElement}
use Rattle.ax_expressions.specs.declared.stop.FilterStop.{FilterStop}
use Rattle.ax_expressions.specs.declared.stop.FilterStop.TheVariants.{Refused, OutOfMemory}

-- the most braces one in another
abbrev pub deepest : ℕ
deepest = 16

-- the text has tokens, and they are a filter over the catalogue, of this expression
pub record IsFilterText (catalogue : List SpecTree) (text : List ℕ) (e : ExprTree) : Type 0 where
  pub tokens : List PlainToken
  pub lexed : AreTokensOf text deepest tokens
  pub filter : IsFilterOf catalogue tokens e

-- the text has tokens, and this is their fault over the catalogue
pub record TokensFail (catalogue : List SpecTree) (text : List ℕ) (error : FilterError) : Type 0 where
  pub tokens : List PlainToken
  pub lexed : AreTokensOf text deepest tokens
  pub fault : IsFault catalogue (texts_of tokens) error

-- the text is refused with that fault
abbrev pub IsRefused : List SpecTree → List ℕ → FilterFault → Type 0
IsRefused catalogue text (BadByte at) = HasBadByte text deepest at
IsRefused catalogue text (TooDeep token) = IsTooDeep text deepest token
IsRefused catalogue text (BadToken token) = TokensFail catalogue text (FilterErrorOf.BadToken token)
IsRefused catalogue text (UnknownPath token) = TokensFail catalogue text (FilterErrorOf.UnknownPath token)
IsRefused catalogue text (NotAnElement token) = TokensFail catalogue text (FilterErrorOf.NotAnElement token)

-- why the text gives no filter; want of memory may come at any text
abbrev pub IsStopped : List SpecTree → List ℕ → FilterStop → Type 0
IsStopped catalogue text (Refused fault) = IsRefused catalogue text fault
IsStopped catalogue text OutOfMemory = Unit {0}

-- ---- the stop for the error of each step

abbrev pub stop_of_lexing : LexError → FilterStop
stop_of_lexing (LexErrorOf.BadByte at) = Refused (BadByte at)
stop_of_lexing (LexErrorOf.TooDeep token) = Refused (TooDeep token)
stop_of_lexing LexErrorOf.OutOfMemory = OutOfMemory

abbrev pub stop_of_reading : FilterError → FilterStop
stop_of_reading (FilterErrorOf.BadToken token) = Refused (BadToken token)
stop_of_reading (FilterErrorOf.UnknownPath token) = Refused (UnknownPath token)
stop_of_reading (FilterErrorOf.NotAnElement token) = Refused (NotAnElement token)
stop_of_reading FilterErrorOf.OutOfMemory = OutOfMemory
