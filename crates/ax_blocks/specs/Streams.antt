-- What a block command does over an input: the answer, where nothing outside fails and memory is there; and what stands where
-- the run stops before that.
use Rattle.std.specs.Prelude.{◌≡◌, ℕ, ◌+◌, ◌<◌, ◌≤◌, ◌⊎◌, Bool, IsTrue, List, [], ◌++◌, length, Option, Some}
use Rattle.ax_bits.specs.Bits.{AreOctets}
use Rattle.ax_blocks.specs.Reader.{ReaderState, octets_to_end, RanOut}
use Rattle.ax_blocks.specs.Taking.{Took, IsUnfinished}
use Rattle.ax_format.specs.Blocks.{BlockTree, IsFramed, SpellsBlock, SpellsStream}
use Rattle.ax_format.specs.Ends.{Ends, InputEnd, RawFails}
use Rattle.ax_format.specs.Framing.{RawTree, FramingEnd}
use Rattle.ax_endpoints.specs.Changes.{Changes, SourceChange, SinkChange, IsUntouched, Gains, GainsNothing, GainsWithPart}
use Rattle.ax_endpoints.specs.Told.{Rose}
use Rattle.ax_blocks.specs.Commands.{BlockCommand, gives, too_long, report_of, output_of, AreGiven}
use Rattle.ax_format.specs.declared.fault.BodyCause.{BodyCause}
use Rattle.ax_format.specs.declared.fault.BodyCause.TheVariants as Body
use Rattle.ax_blocks.specs.declared.end.Cause.{Cause}
use Rattle.ax_blocks.specs.declared.end.Cause.TheVariants.{EndsInHeader, BadLen, EndsInBlock, RunsOut, UndefinedSlot, PresenceTooLong, ExtensionPastEnd, BadExplicitLength}
use Rattle.ax_blocks.specs.Ending.{longest_input, stream_end, framing_end, refused_at, cause_of}
use Rattle.ax_blocks.specs.declared.end.StreamEnd.{StreamEnd}
use Rattle.ax_blocks.specs.declared.end.StreamEnd.TheVariants.{Done, Refused, InputTooLong, TooLong, ReadFault, WriteFault, ReportFault, OutOfMemory}

-- ---- the answer

-- the input begins with blocks within the limit, and the command answers each of them
pub record BeginsWith (c : BlockCommand) (limit : ℕ) (input : List ℕ) (blocks : List BlockTree) (octets rest : List ℕ) : Type 0 where
  pub split : input ≡ octets ++ rest
  pub within : length octets ≤ limit
  pub spelled : SpellsStream c.catalogue blocks octets
  pub given : AreGiven c 0 blocks

-- after them this block
pub record ThenBlock (c : BlockCommand) (limit : ℕ) (octets rest : List ℕ) (block : BlockTree) (front after : List ℕ) : Type 0 where
  pub split : rest ≡ front ++ after
  pub within : length (octets ++ front) ≤ limit
  pub spelled : SpellsBlock c.catalogue block front

-- all blocks of the input are answered, and the run ends as the input does
pub record EndsWithInput (c : BlockCommand) (limit : ℕ) (input : List ℕ) (blocks : List BlockTree) (e : StreamEnd) : Type 0 where
  pub end : InputEnd
  pub ends : Ends c.catalogue input limit blocks end
  pub given : AreGiven c 0 blocks
  pub is : e ≡ stream_end (length blocks) end

-- the block after these is refused for its length
pub record EndsTooLong (c : BlockCommand) (limit : ℕ) (input : List ℕ) (blocks : List BlockTree) (e : StreamEnd) : Type 0 where
  pub octets : List ℕ
  pub rest : List ℕ
  pub begins : BeginsWith c limit input blocks octets rest
  pub block : BlockTree
  pub front : List ℕ
  pub after : List ℕ
  pub next : ThenBlock c limit octets rest block front after
  pub count : ℕ
  pub answer : c.answer (length blocks) block ≡ too_long count
  pub is : e ≡ TooLong (length blocks) count

-- the answer: the end, and the blocks whose results are written
abbrev pub StreamAnswers : BlockCommand → ℕ → List ℕ → List BlockTree → StreamEnd → Type 0
StreamAnswers c limit input blocks e = EndsWithInput c limit input blocks e ⊎ EndsTooLong c limit input blocks e

-- ---- what stands where a run has stopped

-- after these blocks, whose results were written
pub record Stands (c : BlockCommand) (limit : ℕ) (input : List ℕ) (o r : SinkChange) (blocks : List BlockTree) (octets rest : List ℕ) : Type 0 where
  pub begins : BeginsWith c limit input blocks octets rest
  pub out : Gains o (output_of c 0 blocks)
  pub report : Gains r (report_of c 0 blocks)

-- a read failed: the blocks are those that are whole among the octets taken
pub record StoppedReading (c : BlockCommand) (limit : ℕ) (input : List ℕ) (left' : Option (List ℕ)) (o r : SinkChange) : Type 0 where
  pub blocks : List BlockTree
  pub octets : List ℕ
  pub part : List ℕ
  pub rest : List ℕ
  pub stands : Stands c limit input o r blocks octets (part ++ rest)
  pub left : left' ≡ Some rest
  pub unfinished : IsUnfinished limit (length octets) part

-- the next block was taken, and the command gives these lines and octets for it
pub record AtBlock (c : BlockCommand) (limit : ℕ) (input : List ℕ) (left' : Option (List ℕ)) (blocks : List BlockTree) (lines laid : List ℕ) : Type 0 where
  pub octets : List ℕ
  pub rest : List ℕ
  pub begins : BeginsWith c limit input blocks octets rest
  pub block : BlockTree
  pub front : List ℕ
  pub after : List ℕ
  pub next : ThenBlock c limit octets rest block front after
  pub answer : c.answer (length blocks) block ≡ gives lines laid
  pub left : left' ≡ Some after

-- a write failed: a prefix of the result through that block was added, and the lines through it
pub record StoppedWriting (c : BlockCommand) (limit : ℕ) (input : List ℕ) (left' : Option (List ℕ)) (o r : SinkChange) : Type 0 where
  pub blocks : List BlockTree
  pub lines : List ℕ
  pub laid : List ℕ
  pub at : AtBlock c limit input left' blocks lines laid
  pub out : GainsWithPart o (output_of c 0 blocks) laid
  pub report : Gains r (report_of c 0 blocks ++ lines)

-- a line failed: nothing of that block was added, and a prefix of the lines through it
pub record StoppedReporting (c : BlockCommand) (limit : ℕ) (input : List ℕ) (left' : Option (List ℕ)) (o r : SinkChange) : Type 0 where
  pub blocks : List BlockTree
  pub lines : List ℕ
  pub laid : List ℕ
  pub at : AtBlock c limit input left' blocks lines laid
  pub out : Gains o (output_of c 0 blocks)
  pub report : GainsWithPart r (report_of c 0 blocks) lines

-- a whole block, within the limit
pub record IsWholeBlock (limit : ℕ) (octets front : List ℕ) : Type 0 where
  pub raw : RawTree
  pub framed : IsFramed raw.category raw.body front
  pub some : 0 < length raw.body
  pub within : length (octets ++ front) ≤ limit

-- memory was wanting: after the blocks before nothing was taken, or one block
pub record StoppedForMemory (c : BlockCommand) (limit : ℕ) (input : List ℕ) (left' : Option (List ℕ)) (o r : SinkChange) : Type 0 where
  pub blocks : List BlockTree
  pub octets : List ℕ
  pub front : List ℕ
  pub rest : List ℕ
  pub stands : Stands c limit input o r blocks octets (front ++ rest)
  pub next : (front ≡ []) ⊎ IsWholeBlock limit octets front
  pub left : left' ≡ Some rest

pub data StreamStops (c : BlockCommand) (limit : ℕ) (input : List ℕ) (left' : Option (List ℕ)) (o r : SinkChange) (e : StreamEnd) : Type 0 where
  reading : e ≡ ReadFault → StoppedReading c limit input left' o r → StreamStops c limit input left' o r e
  writing : e ≡ WriteFault → StoppedWriting c limit input left' o r → StreamStops c limit input left' o r e
  reporting : e ≡ ReportFault → StoppedReporting c limit input left' o r → StreamStops c limit input left' o r e
  for_memory : e ≡ OutOfMemory → StoppedForMemory c limit input left' o r → StreamStops c limit input left' o r e

-- ---- a run over an input that is told

-- framing ended after these blocks: the octets that show it were taken, and no more
pub record LeftByFraming (c : BlockCommand) (limit : ℕ) (input : List ℕ) (left' : Option (List ℕ)) (blocks : List BlockTree) (e : StreamEnd) : Type 0 where
  pub octets : List ℕ
  pub shown : List ℕ
  pub after : List ℕ
  pub split : input ≡ octets ++ (shown ++ after)
  pub spelled : SpellsStream c.catalogue blocks octets
  pub end : FramingEnd
  pub count : length shown ≡ octets_to_end limit (length octets) end
  pub ran_out : RanOut end left'
  pub left : left' ≡ Some after
  pub is : e ≡ framing_end (length blocks) end

-- a fault in that block, or its length
pub data RefusesBlock (number : ℕ) (e : StreamEnd) : Type 0 where
  in_body : (bit : ℕ) (cause : BodyCause) → e ≡ refused_at (cause_of cause) number (24 + bit) → RefusesBlock number e
  by_length : (count : ℕ) → e ≡ TooLong number count → RefusesBlock number e

-- the block after these was refused: it was taken whole, and no more
pub record LeftByBlock (c : BlockCommand) (input : List ℕ) (left' : Option (List ℕ)) (blocks : List BlockTree) (e : StreamEnd) : Type 0 where
  pub octets : List ℕ
  pub raw : RawTree
  pub front : List ℕ
  pub after : List ℕ
  pub split : input ≡ octets ++ (front ++ after)
  pub spelled : SpellsStream c.catalogue blocks octets
  pub framed : IsFramed raw.category raw.body front
  pub left : left' ≡ Some after
  pub is : RefusesBlock (length blocks) e

abbrev pub IsLeft : BlockCommand → ℕ → List ℕ → Option (List ℕ) → List BlockTree → StreamEnd → Type 0
IsLeft c limit input left' blocks e = LeftByFraming c limit input left' blocks e ⊎ LeftByBlock c input left' blocks e

-- the answer was given, and its result written; at Done the input was read to its end
pub record Answered (c : BlockCommand) (limit : ℕ) (input : List ℕ) (left' : Option (List ℕ)) (o r : SinkChange) (e : StreamEnd) : Type 0 where
  pub blocks : List BlockTree
  pub answers : StreamAnswers c limit input blocks e
  pub out : Gains o (output_of c 0 blocks)
  pub report : Gains r (report_of c 0 blocks)
  pub read : (count : ℕ) → e ≡ Done count → left' ≡ Some []
  pub left : IsLeft c limit input left' blocks e

abbrev pub ToldRun : BlockCommand → ℕ → List ℕ → Option (List ℕ) → SinkChange → SinkChange → StreamEnd → Type 0
ToldRun c limit input left' o r e = Answered c limit input left' o r e ⊎ StreamStops c limit input left' o r e

-- the octets that were taken are an input of which this is the run, with none left of it, whether the source tells what it
-- gives or not; and so much else is true of them
pub record RunsOver (c : BlockCommand) (limit : ℕ) (i : SourceChange) (o r : SinkChange) (e : StreamEnd) (Also : List ℕ → Type 0) : Type 0 where
  pub octets : List ℕ
  pub took : Took i.left i.left' i.taken i.taken' octets
  pub run : ToldRun c limit octets (Some []) o r e
  pub also : Also octets

abbrev pub RunsOverTaken : BlockCommand → ℕ → SourceChange → SinkChange → SinkChange → StreamEnd → Type 0
RunsOverTaken c limit i o r e = RunsOver c limit i o r e (λ octets. Unit {0})

-- ---- a run, whatever is told

-- the command has a line for some block
pub record Reports (c : BlockCommand) : Type 0 where
  pub number : ℕ
  pub block : BlockTree
  pub lines : List ℕ
  pub octets : List ℕ
  pub answer : c.answer number block ≡ gives lines octets
  pub some : 0 < length lines

-- the command refuses some block of that number for that length
pub record RefusesLength (c : BlockCommand) (number count : ℕ) : Type 0 where
  pub block : BlockTree
  pub answer : c.answer number block ≡ too_long count

-- some body fails so under the command's catalogue
pub record FailsSome (c : BlockCommand) (cause : BodyCause) : Type 0 where
  pub raw : RawTree
  pub place : ℕ
  pub fails : RawFails c.catalogue raw place cause

abbrev pub HasCause : BlockCommand → Cause → Type 0
HasCause c RunsOut = FailsSome c Body.RunsOut
HasCause c UndefinedSlot = FailsSome c Body.UndefinedSlot
HasCause c PresenceTooLong = FailsSome c Body.PresenceTooLong
HasCause c ExtensionPastEnd = FailsSome c Body.ExtensionPastEnd
HasCause c BadExplicitLength = FailsSome c Body.BadExplicitLength
HasCause c EndsInHeader = Unit {0}
HasCause c BadLen = Unit {0}
HasCause c EndsInBlock = Unit {0}

-- a failed line and a refused length come only of a command that has such, and a body's fault of a catalogue under which a
-- body can have it
abbrev pub IsLicensed : BlockCommand → StreamEnd → Type 0
IsLicensed c ReportFault = Reports c
IsLicensed c (TooLong number count) = RefusesLength c number count
IsLicensed c (Done blocks) = Unit {0}
IsLicensed c (Refused fault) = HasCause c fault.cause
IsLicensed c InputTooLong = Unit {0}
IsLicensed c ReadFault = Unit {0}
IsLicensed c WriteFault = Unit {0}
IsLicensed c OutOfMemory = Unit {0}

-- a fault of the outside comes only where its count rose, and a limit only where more octets were taken
abbrev pub IsCaused : ℕ → SourceChange → SinkChange → SinkChange → StreamEnd → Type 0
IsCaused limit i o r ReadFault = Rose i.faults i.faults'
IsCaused limit i o r WriteFault = Rose o.faults o.faults'
IsCaused limit i o r ReportFault = Rose r.faults r.faults'
IsCaused limit i o r InputTooLong = i.taken + limit < i.taken'
IsCaused limit i o r (Done blocks) = Unit {0}
IsCaused limit i o r (Refused fault) = Unit {0}
IsCaused limit i o r (TooLong number count) = Unit {0}
IsCaused limit i o r OutOfMemory = Unit {0}

-- one fault at most was counted, of the object that the end names; where it names none no count rose
abbrev pub CountsOnly : SourceChange → SinkChange → SinkChange → StreamEnd → Type 0
CountsOnly i o r ReadFault = (i.faults' ≤ i.faults + 1) × (o.faults' ≡ o.faults) × (r.faults' ≡ r.faults)
CountsOnly i o r WriteFault = (i.faults' ≡ i.faults) × (o.faults' ≤ o.faults + 1) × (r.faults' ≡ r.faults)
CountsOnly i o r ReportFault = (i.faults' ≡ i.faults) × (o.faults' ≡ o.faults) × (r.faults' ≤ r.faults + 1)
CountsOnly i o r _ = (i.faults' ≡ i.faults) × (o.faults' ≡ o.faults) × (r.faults' ≡ r.faults)

pub record StreamRuns (c : BlockCommand) (limit : ℕ) (i : SourceChange) (o r : SinkChange) (e : StreamEnd) : Type 0 where
  pub told : (input : List ℕ) → AreOctets input → i.left ≡ Some input → ToldRun c limit input i.left' o r e
  pub over_taken : RunsOverTaken c limit i o r e
  pub caused : IsCaused limit i o r e
  pub licensed : IsLicensed c e
  pub counts : CountsOnly i o r e
  pub source_later : i.faults ≤ i.faults'
  pub out_later : o.faults ≤ o.faults'
  pub report_later : r.faults ≤ r.faults'

-- of what a reader of that limit gives
abbrev pub StreamRunsBy : BlockCommand → ReaderState → Changes → StreamEnd → Type 0
StreamRunsBy c reader x e = StreamRuns c reader.limit x.source x.out x.report e

-- of an input as long as any may be
abbrev pub StreamRunsWhole : BlockCommand → Changes → StreamEnd → Type 0
StreamRunsWhole c x e = StreamRuns c longest_input x.source x.out x.report e

-- nothing was taken and nothing added, and no fault was counted
pub record IsIdle (i : SourceChange) (o r : SinkChange) : Type 0 where
  pub untouched : IsUntouched i
  pub out : GainsNothing o
  pub report : GainsNothing r
  pub source_quiet : i.faults' ≡ i.faults
  pub out_quiet : o.faults' ≡ o.faults
  pub report_quiet : r.faults' ≡ r.faults

-- memory was wanting before anything was taken, but of a work that takes memory
abbrev pub WantsMemory : Bool → Changes → StreamEnd → Type 0
WantsMemory takes_memory x e = e ≡ OutOfMemory → IsTrue takes_memory ⊎ IsIdle x.source x.out x.report
