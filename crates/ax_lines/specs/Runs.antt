-- What a line command does over an input: the answer, where nothing outside fails and memory is there; and what stands where
-- the run stops before that.
use Rattle.std.specs.Prelude.{◌≡◌, ℕ, ◌+◌, ◌<◌, ◌≤◌, ◌⊎◌, List, [], ◌∷◌, ◌++◌, length, flat_map, Option, Some}
use Rattle.ax_lines.specs.Feeds.{IsPlain}
use Rattle.ax_lines.specs.Holding.{Took}
use Rattle.ax_lines.specs.Lined.{LinedEnd, line, IsNextLine, Lined}
use Rattle.ax_lines.specs.Reader.{ReaderState, read_ahead}
use Rattle.ax_lines.specs.Commands.{LineCommand, LineAnswer, gives, refused, output_of, results_of, AreAnswered}
use Rattle.ax_lines.specs.Ending.{lines_end, longest_line, longest_input}
use Rattle.ax_lines.specs.declared.end.LinesEnd.{LinesEnd}
use Rattle.ax_lines.specs.declared.end.LinesEnd.TheVariants.{Done, Refused, LineTooLong, InputTooLong, ReadFault, WriteFault, OutOfMemory}
use Rattle.ax_endpoints.specs.Changes.{SourceChange, SinkChange, Gains, GainsWithPart}
use Rattle.ax_endpoints.specs.Told.{Rose}

-- ---- lines at the front of an input

-- the octets, with `before` others in front, begin with these lines and their line feeds; with these, `past` stand in front
-- of the rest
abbrev pub BeginsWith : ℕ → ℕ → ℕ → List ℕ → List (List ℕ) → ℕ → List ℕ → Type 0
BeginsWith line_limit limit before octets [] past rest = (before ≡ past) × (octets ≡ rest)
BeginsWith line_limit limit before octets (one ∷ lines) past rest =
    (after : List ℕ) × (taken : ℕ) × IsNextLine line_limit limit before octets (line one after) × (length octets ≡ taken + length after) × BeginsWith line_limit limit (before + taken) after lines past rest

-- the input begins with lines that the command answers so, and then the rest
pub record AnswersLines {F : Type 0} (c : LineCommand F) (line_limit limit : ℕ) (input : List ℕ) (lines : List (List ℕ)) (answers : List (LineAnswer F)) (past : ℕ) (rest : List ℕ) : Type 0 where
  pub begins : BeginsWith line_limit limit 0 input lines past rest
  pub answered : AreAnswered c lines answers

-- ---- the answer

-- all lines of the input are answered, and the run ends as they do
pub record EndsWithInput {F : Type 0} (c : LineCommand F) (line_limit limit : ℕ) (input : List ℕ) (lines : List (List ℕ)) (answers : List (LineAnswer F)) (e : LinesEnd F) : Type 0 where
  pub end : LinedEnd
  pub lined : Lined line_limit limit 0 input lines end
  pub answered : AreAnswered c lines answers
  pub is : e ≡ lines_end (results_of answers) (length lines) end

-- the line after these is refused
pub record EndsAtLine {F : Type 0} (c : LineCommand F) (line_limit limit : ℕ) (input : List ℕ) (lines : List (List ℕ)) (answers : List (LineAnswer F)) (e : LinesEnd F) : Type 0 where
  pub past : ℕ
  pub rest : List ℕ
  pub front : AnswersLines c line_limit limit input lines answers past rest
  pub one : List ℕ
  pub after : List ℕ
  pub next : IsNextLine line_limit limit past rest (line one after)
  pub fault : F
  pub answer : c (length lines) one (refused fault)
  pub is : e ≡ Refused (length lines) fault

-- the answer to an input: the end, the lines before it, and the answers to these
abbrev pub LinesAnswer : {F : Type 0} → LineCommand F → ℕ → ℕ → List ℕ → List (List ℕ) → List (LineAnswer F) → LinesEnd F → Type 0
LinesAnswer c line_limit limit input lines answers e = EndsWithInput c line_limit limit input lines answers e ⊎ EndsAtLine c line_limit limit input lines answers e

-- ---- what stands where a run has stopped

-- what is left in the source are the last of these octets: those before them were taken, at most so many
pub record IsLeftOf (most : ℕ) (octets : List ℕ) (left' : Option (List ℕ)) : Type 0 where
  pub front : List ℕ
  pub rest : List ℕ
  pub split : octets ≡ front ++ rest
  pub near : length front ≤ most
  pub left : left' ≡ Some rest

-- past these lines at the front of the input at most the reader's buffer was taken: the longest line, and what it reads ahead
pub record IsLeftAfter (line_limit limit : ℕ) (input : List ℕ) (lines : List (List ℕ)) (left' : Option (List ℕ)) : Type 0 where
  pub past : ℕ
  pub rest : List ℕ
  pub begins : BeginsWith line_limit limit 0 input lines past rest
  pub left : IsLeftOf (line_limit + read_ahead) rest left'

-- the octets of these lines, each with its line feed
abbrev pub with_feeds : List (List ℕ) → List ℕ
with_feeds lines = flat_map (λ one. one ++ 10 ∷ []) lines

-- a read failed: the lines are those whose line feed was taken, and no others; `part` are the octets taken of the next one
pub record StoppedReading {F : Type 0} (c : LineCommand F) (line_limit limit : ℕ) (input : List ℕ) (left' : Option (List ℕ)) (o : SinkChange) : Type 0 where
  pub lines : List (List ℕ)
  pub answers : List (LineAnswer F)
  pub past : ℕ
  pub part : List ℕ
  pub rest : List ℕ
  pub front : AnswersLines c line_limit limit input lines answers past (part ++ rest)
  pub fed : input ≡ with_feeds lines ++ (part ++ rest)
  pub plain : IsPlain part
  pub short : length part ≤ line_limit
  pub within : past + length part ≤ limit
  pub left : left' ≡ Some rest
  pub out : Gains o (output_of answers)

-- a write failed: a prefix of the result through the line after these was added, and past that line at most the reader's
-- buffer was taken
pub record StoppedWriting {F : Type 0} (c : LineCommand F) (line_limit limit : ℕ) (input : List ℕ) (left' : Option (List ℕ)) (o : SinkChange) : Type 0 where
  pub lines : List (List ℕ)
  pub answers : List (LineAnswer F)
  pub past : ℕ
  pub rest : List ℕ
  pub front : AnswersLines c line_limit limit input lines answers past rest
  pub one : List ℕ
  pub after : List ℕ
  pub next : IsNextLine line_limit limit past rest (line one after)
  pub laid : List ℕ
  pub answer : c (length lines) one (gives laid)
  pub left : IsLeftOf (line_limit + read_ahead) after left'
  pub out : GainsWithPart o (output_of answers) laid

-- nothing was taken, all of the input being left, or a line, and past it at most the reader's buffer
pub data IsBefore (line_limit limit past : ℕ) (input rest : List ℕ) (left' : Option (List ℕ)) : Type 0 where
  nothing_taken : rest ≡ input → left' ≡ Some input → IsBefore line_limit limit past input rest left'
  one_taken : (one after : List ℕ) → IsNextLine line_limit limit past rest (line one after) → IsLeftOf (line_limit + read_ahead) after left' → IsBefore line_limit limit past input rest left'

-- memory was wanting: before the first line, or for the line after these
pub record StoppedForMemory {F : Type 0} (c : LineCommand F) (line_limit limit : ℕ) (input : List ℕ) (left' : Option (List ℕ)) (o : SinkChange) : Type 0 where
  pub lines : List (List ℕ)
  pub answers : List (LineAnswer F)
  pub past : ℕ
  pub rest : List ℕ
  pub front : AnswersLines c line_limit limit input lines answers past rest
  pub next : IsBefore line_limit limit past input rest left'
  pub out : Gains o (output_of answers)

pub data LinesStop {F : Type 0} (c : LineCommand F) (line_limit limit : ℕ) (input : List ℕ) (left' : Option (List ℕ)) (o : SinkChange) (e : LinesEnd F) : Type 0 where
  reading : e ≡ ReadFault → StoppedReading c line_limit limit input left' o → LinesStop c line_limit limit input left' o e
  writing : e ≡ WriteFault → StoppedWriting c line_limit limit input left' o → LinesStop c line_limit limit input left' o e
  for_memory : e ≡ OutOfMemory → StoppedForMemory c line_limit limit input left' o → LinesStop c line_limit limit input left' o e

-- ---- a run over an input that is told

-- the answer was given, and its result written; at Done the input was read to its end. The reader may have taken more than
-- the answer needs: past the lines that were answered at most its buffer, of which a line that is refused is the front
pub record Answered {F : Type 0} (c : LineCommand F) (line_limit limit : ℕ) (input : List ℕ) (left' : Option (List ℕ)) (o : SinkChange) (e : LinesEnd F) : Type 0 where
  pub lines : List (List ℕ)
  pub answers : List (LineAnswer F)
  pub ends : LinesAnswer c line_limit limit input lines answers e
  pub out : Gains o (output_of answers)
  pub read : (count : ℕ) → e ≡ Done count → left' ≡ Some []
  pub left : IsLeftAfter line_limit limit input lines left'

abbrev pub ToldRun : {F : Type 0} → LineCommand F → ℕ → ℕ → List ℕ → Option (List ℕ) → SinkChange → LinesEnd F → Type 0
ToldRun c line_limit limit input left' o e = Answered c line_limit limit input left' o e ⊎ LinesStop c line_limit limit input left' o e

-- the octets that were taken are an input of which this is the run, with none left of it, whether the source tells what it
-- gives or not
pub record RunsOverTaken {F : Type 0} (c : LineCommand F) (line_limit limit : ℕ) (i : SourceChange) (o : SinkChange) (e : LinesEnd F) : Type 0 where
  pub octets : List ℕ
  pub took : Took i octets
  pub run : ToldRun c line_limit limit octets (Some []) o e

-- ---- a run, whatever is told

-- the command refuses some line of that number so
pub record RefusesLine {F : Type 0} (c : LineCommand F) (number : ℕ) (fault : F) : Type 0 where
  pub octets : List ℕ
  pub answer : c number octets (refused fault)

-- a refused line comes only of a command that has such
abbrev pub IsLicensed : {F : Type 0} → LineCommand F → LinesEnd F → Type 0
IsLicensed c (Refused number fault) = RefusesLine c number fault
IsLicensed c (Done blocks) = Unit {0}
IsLicensed c (LineTooLong number) = Unit {0}
IsLicensed c InputTooLong = Unit {0}
IsLicensed c ReadFault = Unit {0}
IsLicensed c WriteFault = Unit {0}
IsLicensed c OutOfMemory = Unit {0}

-- a fault of the outside comes only where its count rose, and the input's limit only where more octets were taken
abbrev pub IsCaused : {F : Type 0} → ℕ → SourceChange → SinkChange → LinesEnd F → Type 0
IsCaused limit i o ReadFault = Rose i.faults i.faults'
IsCaused limit i o WriteFault = Rose o.faults o.faults'
IsCaused limit i o InputTooLong = i.taken + limit < i.taken'
IsCaused limit i o (Done blocks) = Unit {0}
IsCaused limit i o (Refused number fault) = Unit {0}
IsCaused limit i o (LineTooLong number) = Unit {0}
IsCaused limit i o OutOfMemory = Unit {0}

-- one fault at most was counted, of the object that the end names; where it names none no count rose
abbrev pub CountsOnly : {F : Type 0} → SourceChange → SinkChange → LinesEnd F → Type 0
CountsOnly i o ReadFault = (i.faults' ≤ i.faults + 1) × (o.faults' ≡ o.faults)
CountsOnly i o WriteFault = (i.faults' ≡ i.faults) × (o.faults' ≤ o.faults + 1)
CountsOnly i o _ = (i.faults' ≡ i.faults) × (o.faults' ≡ o.faults)

pub record LinesRun {F : Type 0} (c : LineCommand F) (line_limit limit : ℕ) (i : SourceChange) (o : SinkChange) (e : LinesEnd F) : Type 0 where
  pub told : (input : List ℕ) → i.left ≡ Some input → ToldRun c line_limit limit input i.left' o e
  pub over_taken : RunsOverTaken c line_limit limit i o e
  pub caused : IsCaused limit i o e
  pub licensed : IsLicensed c e
  pub counts : CountsOnly i o e
  pub source_later : i.faults ≤ i.faults'
  pub out_later : o.faults ≤ o.faults'

-- the same within the limits of a reader, and within those of every input
abbrev pub LinesRunBy : {F : Type 0} → LineCommand F → ReaderState → SourceChange → SinkChange → LinesEnd F → Type 0
LinesRunBy c reader i o e = LinesRun c reader.line_limit reader.limit i o e

abbrev pub LinesRunWhole : {F : Type 0} → LineCommand F → SourceChange → SinkChange → LinesEnd F → Type 0
LinesRunWhole c i o e = LinesRun c longest_line longest_input i o e
