-- What the work on one block does.
use Rattle.std.specs.Prelude.{◌≡◌, ℕ, ◌+◌, ◌≤◌, List, Result, Ok, Err, OnOk}
use Rattle.ax_format.specs.Blocks.{BlockTree}
use Rattle.ax_format.specs.Ends.{RawSpells, RawFails}
use Rattle.ax_format.specs.Framing.{RawTree}
use Rattle.ax_format.specs.declared.fault.BodyCause.{BodyCause}
use Rattle.ax_endpoints.specs.Changes.{SinkChange, Gains, GainsNothing, GainsPart}
use Rattle.ax_format.specs.declared.record.RawBlock.{RawBlock}
use Rattle.ax_blocks.specs.Reader.{raw_tree}
use Rattle.ax_blocks.specs.Commands.{BlockCommand, gives, too_long}
use Rattle.ax_blocks.specs.declared.work.WorkStop.{WorkStop}
use Rattle.ax_blocks.specs.declared.work.WorkStop.TheVariants.{Fault, TooLong, WriteFault, ReportFault, OutOfMemory}

-- the block spells one of the catalogue's, and the command gives these lines and octets for it
pub record GivesFor (c : BlockCommand) (number : ℕ) (raw : RawTree) (lines octets : List ℕ) : Type 0 where
  pub block : BlockTree
  pub spells : RawSpells c.catalogue raw block
  pub answer : c.answer number block ≡ gives lines octets

-- the lines were written on the report, and the octets on the output
pub record IsTaken (c : BlockCommand) (number : ℕ) (raw : RawTree) (o r : SinkChange) : Type 0 where
  pub lines : List ℕ
  pub octets : List ℕ
  pub is : GivesFor c number raw lines octets
  pub said : Gains r lines
  pub wrote : Gains o octets

-- nothing was written of the block
pub record GainNothing (o r : SinkChange) : Type 0 where
  pub out : GainsNothing o
  pub report : GainsNothing r

-- the body fails, within the longest body
pub record FailsFor (c : BlockCommand) (raw : RawTree) (o r : SinkChange) (bit : ℕ) (cause : BodyCause) : Type 0 where
  pub fails : RawFails c.catalogue raw bit cause
  pub short : bit ≤ 524256
  pub nothing : GainNothing o r

-- its result is too long
pub record IsTooLongFor (c : BlockCommand) (number : ℕ) (raw : RawTree) (o r : SinkChange) (count : ℕ) : Type 0 where
  pub block : BlockTree
  pub spells : RawSpells c.catalogue raw block
  pub answer : c.answer number block ≡ too_long count
  pub nothing : GainNothing o r

-- a line of it failed, before the first octet
pub record IsCutFor (c : BlockCommand) (number : ℕ) (raw : RawTree) (o r : SinkChange) : Type 0 where
  pub lines : List ℕ
  pub octets : List ℕ
  pub is : GivesFor c number raw lines octets
  pub part : GainsPart r lines
  pub nothing : GainsNothing o

-- its octets failed, after all of its lines
pub record IsCutAfterLines (c : BlockCommand) (number : ℕ) (raw : RawTree) (o r : SinkChange) : Type 0 where
  pub lines : List ℕ
  pub octets : List ℕ
  pub is : GivesFor c number raw lines octets
  pub said : Gains r lines
  pub part : GainsPart o octets

abbrev pub StopsFor : BlockCommand → ℕ → RawTree → SinkChange → SinkChange → WorkStop → Type 0
StopsFor c number raw o r (Fault f) = FailsFor c raw o r f.bit f.cause
StopsFor c number raw o r (TooLong count) = IsTooLongFor c number raw o r count
StopsFor c number raw o r WriteFault = IsCutAfterLines c number raw o r
StopsFor c number raw o r ReportFault = IsCutFor c number raw o r
StopsFor c number raw o r OutOfMemory = GainNothing o r

abbrev pub Means : BlockCommand → ℕ → RawTree → SinkChange → SinkChange → Result Unit WorkStop → Type 0
Means c number raw o r (Ok u) = IsTaken c number raw o r
Means c number raw o r (Err stop) = StopsFor c number raw o r stop

-- the answer isn't a failed line
abbrev pub UnlessReportFault : Result Unit WorkStop → Type 0 → Type 0
UnlessReportFault (Err ReportFault) P = Unit {0}
UnlessReportFault _ P = P

-- the answer isn't a failed write of the output
abbrev pub UnlessWriteFault : Result Unit WorkStop → Type 0 → Type 0
UnlessWriteFault (Err WriteFault) P = Unit {0}
UnlessWriteFault _ P = P

-- of each of the two one fault at most was counted, and none where no write of it failed
pub record Takes (c : BlockCommand) (number : ℕ) (raw : RawTree) (o r : SinkChange) (result : Result Unit WorkStop) : Type 0 where
  pub means : Means c number raw o r result
  pub out_later : o.faults ≤ o.faults'
  pub out_once : o.faults' ≤ o.faults + 1
  pub out_quiet : UnlessWriteFault result (o.faults' ≡ o.faults)
  pub report_later : r.faults ≤ r.faults'
  pub report_once : r.faults' ≤ r.faults + 1
  pub report_quiet : UnlessReportFault result (r.faults' ≡ r.faults)

-- the same of a block as it was read
abbrev pub TakesRaw : BlockCommand → ℕ → RawBlock → SinkChange → SinkChange → Result Unit WorkStop → Type 0
TakesRaw c number raw o r result = Takes c number (raw_tree raw) o r result

-- ---- pieces of the output

-- all of the octets, or a part of them where the write failed; there is no other answer
abbrev pub IsWritten : SinkChange → List ℕ → Result Unit WorkStop → Type 0
IsWritten o octets (Ok u) = Gains o octets
IsWritten o octets (Err WriteFault) = GainsPart o octets
IsWritten o octets _ = ⊥

-- a call that writes these octets; one fault at most was counted, and none where all were written
pub record WritesOctets (o : SinkChange) (octets : List ℕ) (result : Result Unit WorkStop) : Type 0 where
  pub means : IsWritten o octets result
  pub later : o.faults ≤ o.faults'
  pub once : o.faults' ≤ o.faults + 1
  pub quiet : OnOk result (o.faults' ≡ o.faults)
