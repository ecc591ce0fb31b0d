-- What the code says of a line.
use Rattle.std.specs.Prelude.{List, ℕ, Option, MatchOption, Vec}
use Rattle.std.specs.Global.{Global}
use Rattle.ax_build_work.specs.BuildCommand.{IsRefusedFor, AnswersLine}
use Rattle.ax_build_work.specs.declared.fault.BuildStop.{BuildStop}
use Rattle.ax_build_work.specs.declared.fault.BuildStop.TheVariants.{Refused, OutOfMemory}
use Rattle.ax_lines.specs.declared.text_fault.TextFault.TheVariants.{BadByte, TooDeep, BadToken, TooLong}
use Rattle.ax_block_reader.specs.declared.error.TextError.{TextError}
use Rattle.ax_block_reader.specs.declared.error.TextError.TheVariants as TextErrorOf
use Rattle.ax_lines.specs.Commands.{gives, nothing, refused}
use Rattle.ax_format.specs.Specification.{SpecTree}
use Rattle.ax_tokens.specs.PlainToken.{PlainToken}
use Rattle.ax_tokens.specs.declared.token.LexError.{LexError}
use Rattle.ax_tokens.specs.declared.token.LexError.TheVariants as LexErrorOf

abbrev pub stop_of_lexing : LexError → BuildStop
stop_of_lexing (LexErrorOf.BadByte at) = Refused (BadByte at)
stop_of_lexing (LexErrorOf.TooDeep token) = Refused (TooDeep token)
stop_of_lexing LexErrorOf.OutOfMemory = OutOfMemory

abbrev pub stop_of_reading : TextError → BuildStop
stop_of_reading (TextErrorOf.BadToken token) = Refused (BadToken token)
stop_of_reading (TextErrorOf.TooLong octets) = Refused (TooLong octets)
stop_of_reading TextErrorOf.OutOfMemory = OutOfMemory

-- the octets that are made of a line are its answer; where none are, it asks for nothing
abbrev pub AnswersMade : List SpecTree → List ℕ → Option (Vec ℕ Global) → Type 0
AnswersMade catalogue line made = MatchOption made (AnswersLine catalogue line nothing) (λ octets. AnswersLine catalogue line (gives octets.items))

-- nothing is built of the tokens; want of memory may come at any
abbrev pub NotBuilt : List SpecTree → List PlainToken → BuildStop → Type 0
NotBuilt catalogue tokens (Refused fault) = IsRefusedFor catalogue tokens fault
NotBuilt catalogue tokens OutOfMemory = Unit {0}

-- why nothing is built of a line
abbrev pub StopsLine : List SpecTree → List ℕ → BuildStop → Type 0
StopsLine catalogue line (Refused fault) = AnswersLine catalogue line (refused fault)
StopsLine catalogue line OutOfMemory = Unit {0}
