-- What contracts see of a line reader and of its answers.
use Rattle.std.specs.Prelude.{◌≡◌, ◌==◌, ℕ, ◌+◌, ◌<◌, ◌≤◌, ◌⊎◌, Bool, true, false, List, [], ◌++◌, length, Option, Some, None, Result, Ok, Err}
use Rattle.std.specs.Borrow.{Bor}
use Rattle.ax_lines.specs.Feeds.{IsPlain}
use Rattle.ax_lines.specs.Holding.{Took}
use Rattle.ax_lines.specs.Lined.{LinedEnd, all_lines, input_too_long, line_too_long, IsFedLine, IsLastLine, PassesLimit, PassesLine, NextLine, line, end, IsJustNextLine}
use Rattle.ax_lines.specs.declared.line_error.LineError.{LineError}
use Rattle.ax_lines.specs.declared.line_error.LineError.TheVariants.{InputTooLong, LineTooLong, ReadFault}
use Rattle.ax_lines.specs.declared.reader.EndedLines.{EndedLines}
use Rattle.ax_lines.specs.declared.reader.EndedLines.TheVariants.{EndOfInput, Refused}
use Rattle.ax_endpoints.specs.Changes.{SourceChange}
use Rattle.ax_endpoints.specs.Told.{with_front, IsAtEnd}

-- a reader: the limits on a line and on its input, the count of octets of the lines that it gave, line feeds included, the
-- octets that it has taken after them, and what it answers from now on, once it has ended or refused
pub record ReaderState : Type 0 where
  pub line_limit : ℕ
  pub limit : ℕ
  pub given : ℕ
  pub buffered : List ℕ
  pub ended : Option EndedLines

abbrev pub IsOpen : ReaderState → Type 0
IsOpen reader = reader.ended ≡ None

-- what holds of all octets that are told
abbrev pub OnTold : Option (List ℕ) → (List ℕ → Type 0) → Type 0
OnTold None P = Unit {0}
OnTold (Some rest) P = P rest

-- ---- answers

abbrev pub OnLine : {A : Type 0} → Result (Option A) LineError → (A → Type 0) → Type 0
OnLine (Ok (Some octets)) P = P octets
OnLine (Ok None) P = Unit {0}
OnLine (Err e) P = Unit {0}

-- the end of the lines that the answer names
abbrev pub OnEnd : {A : Type 0} → Result (Option A) LineError → (LinedEnd → Type 0) → Type 0
OnEnd (Ok (Some octets)) P = Unit {0}
OnEnd (Ok None) P = P all_lines
OnEnd (Err InputTooLong) P = P input_too_long
OnEnd (Err LineTooLong) P = P line_too_long
OnEnd (Err ReadFault) P = Unit {0}

abbrev pub OnReadFault : {A : Type 0} → Result (Option A) LineError → Type 0 → Type 0
OnReadFault (Err ReadFault) P = P
OnReadFault _ P = Unit {0}

abbrev pub UnlessReadFault : {A : Type 0} → Result A LineError → Type 0 → Type 0
UnlessReadFault (Err ReadFault) P = Unit {0}
UnlessReadFault _ P = P

-- at another answer than a line
abbrev pub IfNoLine : {A : Type 0} → Result (Option A) LineError → Type 0 → Type 0
IfNoLine (Ok (Some octets)) P = Unit {0}
IfNoLine (Ok None) P = P
IfNoLine (Err e) P = P

abbrev pub OnTooLong : {A : Type 0} → Result (Option A) LineError → Type 0 → Type 0
OnTooLong (Err InputTooLong) P = P
OnTooLong _ P = Unit {0}

-- the octets of the line given
abbrev pub line_read : Result (Option (Bor (List ℕ))) LineError → Result (Option (List ℕ)) LineError
line_read (Ok (Some octets)) = Ok (Some octets.now)
line_read (Ok None) = Ok None
line_read (Err e) = Err e

-- what the reader answers from now on, after another answer than a line
abbrev pub ended_by : {A : Type 0} → Result (Option A) LineError → Option EndedLines
ended_by (Ok (Some octets)) = None
ended_by (Ok None) = Some EndOfInput
ended_by (Err e) = Some (Refused e)

-- and after a line, of which the octets of the buffer end at `stop` and those after it and its line feed begin at `next`: the
-- last one has no line feed, and None comes after it
abbrev pub ended_if : Bool → Option EndedLines
ended_if true = Some EndOfInput
ended_if false = None

abbrev pub ended_after : ℕ → ℕ → Option EndedLines
ended_after stop next = ended_if (next == stop)

-- ---- what octets show that are known so far

-- what these octets show, whatever comes after them; where they ran out, none is left
abbrev pub Shows : ℕ → ℕ → ℕ → List ℕ → Option (List ℕ) → NextLine → Type 0
Shows line_limit limit given octets left (line one after) = IsFedLine line_limit limit given octets one after ⊎ (IsLastLine line_limit limit given octets one after × IsAtEnd left)
Shows line_limit limit given octets left (end all_lines) = (octets ≡ []) × IsAtEnd left
Shows line_limit limit given octets left (end input_too_long) = PassesLimit line_limit limit given octets
Shows line_limit limit given octets left (end line_too_long) = PassesLine line_limit limit given octets

-- a line and its line feed, after which the reader goes on; or the last one, with which the source has ended, and the reader
abbrev pub ShowsLine : ℕ → ℕ → ℕ → List ℕ → Option (List ℕ) → List ℕ → List ℕ → Option EndedLines → Type 0
ShowsLine line_limit limit given octets left one after ended =
    (IsFedLine line_limit limit given octets one after × (ended ≡ None)) ⊎ (IsLastLine line_limit limit given octets one after × IsAtEnd left × (ended ≡ Some EndOfInput))

-- how many octets the reader holds besides those of the longest line
abbrev pub read_ahead : ℕ
read_ahead = 65536

-- ---- what an answer says. `buffered` are the octets that the reader had taken before the call

-- all octets that aren't given yet, where they are told
abbrev pub ahead : List ℕ → Option (List ℕ) → Option (List ℕ)
ahead buffered left = with_front buffered left

-- that line comes next and nothing else does, and these octets are not given yet
pub record IsToldLine (line_limit limit given : ℕ) (before : List ℕ) (following : Option (List ℕ)) (octets : List ℕ) : Type 0 where
  pub after : List ℕ
  pub following_is : following ≡ Some after
  pub just : IsJustNextLine line_limit limit given before (line octets after)

-- a line is given: the octets buffered and those taken begin with it, and the reader holds what is after it and its line feed
pub record GivesLine (line_limit limit given : ℕ) (buffered : List ℕ) (i : SourceChange) (given' : ℕ) (buffered' : List ℕ) (ended' : Option EndedLines) (octets : List ℕ) : Type 0 where
  pub taken : List ℕ
  pub took : Took i taken
  pub room : length (buffered ++ taken) ≤ line_limit + read_ahead
  pub shows : ShowsLine line_limit limit given (buffered ++ taken) i.left' octets buffered' ended'
  pub counts : given' + length buffered' ≡ given + length (buffered ++ taken)
  pub told : OnTold (ahead buffered i.left) (λ before. IsToldLine line_limit limit given before (ahead buffered' i.left') octets)

-- an end: the octets buffered and those taken show it; it comes next, and nothing else does
pub record FindsEnd (line_limit limit given : ℕ) (buffered : List ℕ) (i : SourceChange) (e : LinedEnd) : Type 0 where
  pub taken : List ℕ
  pub took : Took i taken
  pub room : length (buffered ++ taken) ≤ line_limit + read_ahead
  pub shows : Shows line_limit limit given (buffered ++ taken) i.left' (end e)
  pub told : OnTold (ahead buffered i.left) (λ before. IsJustNextLine line_limit limit given before (end e))

-- a read failed: no line feed is among the octets buffered and those taken, and they pass no limit
pub record StopsInLine (line_limit limit given : ℕ) (buffered : List ℕ) (i : SourceChange) : Type 0 where
  pub taken : List ℕ
  pub took : Took i taken
  pub plain : IsPlain (buffered ++ taken)
  pub short : length (buffered ++ taken) ≤ line_limit
  pub within : given + length (buffered ++ taken) ≤ limit

-- the same of a reader, and that it took octets past its limit
abbrev pub ReaderEnds : ReaderState → SourceChange → LinedEnd → Type 0
ReaderEnds reader i e = FindsEnd reader.line_limit reader.limit reader.given reader.buffered i e

abbrev pub ReaderStops : ReaderState → SourceChange → Type 0
ReaderStops reader i = StopsInLine reader.line_limit reader.limit reader.given reader.buffered i

abbrev pub ReaderPasses : ReaderState → SourceChange → Type 0
ReaderPasses reader i = reader.limit + i.taken < reader.given + length reader.buffered + i.taken'

-- the reader after an answer
pub record IsAfter (old : ReaderState) (i : SourceChange) (result : Result (Option (List ℕ)) LineError) (new : ReaderState) : Type 0 where
  pub same_line_limit : new.line_limit ≡ old.line_limit
  pub same_limit : new.limit ≡ old.limit
  pub within : new.given ≤ new.limit
  pub keeps : IfNoLine result (new.ended ≡ ended_by result)
  pub gives : OnLine result (GivesLine old.line_limit old.limit old.given old.buffered i new.given new.buffered new.ended)
