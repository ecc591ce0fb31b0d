-- What a run does, stage by stage, whatever the library, the source and the sinks tell.
use Rattle.std.specs.Prelude.{◌≡◌, ℕ, ◌+◌, ◌<◌, ◌≤◌, ◌⊎◌, Bool, IsTrue, List, Option}
use Rattle.ax_command.specs.Outcomes.{outcome_of_stop, outcome_of_job_stop}
use Rattle.ax_command.specs.declared.outcome.JobStop.{JobStop}
use Rattle.ax_command.specs.declared.outcome.Outcome.{Outcome}
use Rattle.ax_command.specs.declared.outcome.Outcome.TheVariants.{Usage, OtherCategory, ExpansionUnused, FilterRefused, TextRefused, MigratedTooLong, ReadFault, WriteFault, ReportFault, InputTooLong, OutOfMemory}
use Rattle.ax_command.specs.declared.outcome.Refusal.{Refusal}
use Rattle.ax_command.specs.declared.outcome.Refusal.TheVariants as RefusalOf
use Rattle.ax_load.specs.declared.fault.LoadStop.{LoadStop}
use Rattle.ax_endpoints.specs.Changes.{Changes, LibraryCounts, SourceChange, SinkChange, IsUntouched, IsUnasked, first_step, second_step, Gains, GainsNothing, GainsPart}
use Rattle.ax_endpoints.specs.Files.{File}
use Rattle.ax_endpoints.specs.Told.{Rose}
use Rattle.ax_blocks.specs.Ending.{longest_input}
use Rattle.ax_blocks.specs.Streams.{IsIdle}
use Rattle.ax_words.specs.Words.{HasShape, HasNoShape}
use Rattle.ax_words.specs.declared.line.Line.{Line}
use Rattle.ax_app.specs.Counting.{LoadsAll, LoadsThrough}
use Rattle.ax_app.specs.Given.{Given, LineGives, LineEnds}
use Rattle.ax_app.specs.Rows.{row_of, IsTask, IsStopped}
use Rattle.ax_app.specs.Tasks.{Task, TaskRuns}

-- the words ask for this, its files give this, and over it it is this task
pub record Does (words : List (List ℕ)) (files : Option (List File)) (task : Task) : Type 0 where
  pub what : Line
  pub shape : HasShape words what
  pub given : Given
  pub give : LineGives what files given
  pub is : IsTask what given task

-- the words ask for this, and loading its files stops so
pub record StopsAtFiles (words : List (List ℕ)) (files : Option (List File)) (c : LibraryCounts) (stop : LoadStop) : Type 0 where
  pub what : Line
  pub shape : HasShape words what
  pub ends : LineEnds what files c stop

-- its files give this, and the command stops before its input
pub record StopsBeforeInput (words : List (List ℕ)) (files : Option (List File)) (stop : JobStop) : Type 0 where
  pub what : Line
  pub shape : HasShape words what
  pub given : Given
  pub give : LineGives what files given
  pub stopped : IsStopped what given stop

-- first the words, for which memory may be wanting, then the files, then what else the words say over them, then the task
pub data Runs (words : List (List ℕ)) (files : Option (List File)) (c : LibraryCounts) (i : SourceChange) (o r : SinkChange) (outcome : Outcome) : Type 0 where
  at_words : HasNoShape words → outcome ≡ Usage → IsUnasked c → IsIdle i o r → Runs words files c i o r outcome
  no_words : outcome ≡ OutOfMemory → IsUnasked c → IsIdle i o r → Runs words files c i o r outcome
  at_files : (stop : LoadStop) (h : StopsAtFiles words files c stop) → LoadsThrough h.what files c stop → outcome ≡ outcome_of_stop stop → IsIdle i o r → Runs words files c i o r outcome
  before_input : (stop : JobStop) (h : StopsBeforeInput words files stop) → LoadsAll h.what files c → outcome ≡ outcome_of_job_stop stop → IsIdle i o r → Runs words files c i o r outcome
  in_task : (task : Task) (d : Does words files task) → LoadsAll d.what files c → TaskRuns task i o r outcome → Runs words files c i o r outcome

-- ---- the report, to which the lines of the outcome come last

-- where the lines of the outcome begin: what the report held before them, at this count of its faults. They were added after it, with
-- no fault more, or a prefix of them where the count rose from there, by one fault
pub record LinesSplit (r : SinkChange) (lines : List ℕ) : Type 0 where
  pub between : Option (List ℕ)
  pub counted : ℕ
  pub from_start : r.faults ≤ counted
  pub to_end : counted ≤ r.faults'
  pub lines_after : (Gains (second_step r between counted) lines × (r.faults' ≡ counted)) ⊎ GainsPart (second_step r between counted) lines
  pub once : r.faults' ≤ counted + 1

-- the report up to there
abbrev pub before_lines : (r : SinkChange) (lines : List ℕ) → LinesSplit r lines → SinkChange
before_lines r lines split = first_step r split.between split.counted

-- ---- causes

pub record Causes (i : SourceChange) (o r : SinkChange) (outcome : Outcome) : Type 0 where
  pub read : outcome ≡ ReadFault → Rose i.faults i.faults'
  pub write : outcome ≡ WriteFault → Rose o.faults o.faults'
  pub report : outcome ≡ ReportFault → Rose r.faults r.faults'
  pub too_long : outcome ≡ InputTooLong → i.taken + longest_input < i.taken'

-- no count of faults of the source or of a sink fell
pub record NoFaultFell (x : Changes) : Type 0 where
  pub source : x.source.faults ≤ x.source.faults'
  pub out : x.out.faults ≤ x.out.faults'
  pub report : x.report.faults ≤ x.report.faults'

-- no count of faults fell, and no number of octets loaded
pub record NoCountFell (c : LibraryCounts) (i : SourceChange) (o r : SinkChange) : Type 0 where
  pub library : c.faults ≤ c.faults'
  pub loaded : c.taken ≤ c.taken'
  pub source : i.faults ≤ i.faults'
  pub out : o.faults ≤ o.faults'
  pub report : r.faults ≤ r.faults'

-- ---- want of memory

-- a command that takes memory once it reads
abbrev pub TakesMemory : Line → Type 0
TakesMemory line = IsTrue (row_of line).may.takes_memory

-- where memory was wanting, no octet was taken from the source and none added to the output
abbrev pub WasIdle : Changes → Outcome → Type 0
WasIdle x outcome = outcome ≡ OutOfMemory → IsUntouched x.source × GainsNothing x.out

-- so it is, or memory is taken once the command reads
abbrev pub WasIdleOr : Bool → Changes → Outcome → Type 0
WasIdleOr takes_memory x outcome = outcome ≡ OutOfMemory → IsTrue takes_memory ⊎ (IsUntouched x.source × GainsNothing x.out)

-- so it is of a line
abbrev pub WantsFirst : Line → Changes → Outcome → Type 0
WantsFirst line x outcome = WasIdleOr (row_of line).may.takes_memory x outcome

-- the words ask for such a command
pub record AsksForMemory (words : List (List ℕ)) : Type 0 where
  pub what : Line
  pub shape : HasShape words what
  pub takes : TakesMemory what

-- ---- outcomes that don't come of every command

-- a command that reports lines of blocks, or of their counts
abbrev pub ReportsBlocks : Line → Type 0
ReportsBlocks line = IsTrue (row_of line).may.reports_blocks

-- one that refuses a block for the length of a record in the new edition
abbrev pub RefusesLengths : Line → Type 0
RefusesLengths line = IsTrue (row_of line).may.refuses_lengths

-- one that reads lines
abbrev pub ReadsLines : Line → Type 0
ReadsLines line = IsTrue (row_of line).may.reads_lines

-- one that may be refused so before its input
abbrev pub MayRefuse : Line → Refusal → Type 0
MayRefuse line refusal = IsTrue ((row_of line).may.refuses refusal)

-- the outcome may come of the line
abbrev pub MayCome : Outcome → Line → Type 0
MayCome ReportFault what = ReportsBlocks what
MayCome (MigratedTooLong block octets) what = RefusesLengths what
MayCome (OtherCategory old new) what = MayRefuse what (RefusalOf.OtherCategory old new)
MayCome (ExpansionUnused category) what = MayRefuse what (RefusalOf.ExpansionUnused category)
MayCome (FilterRefused fault) what = MayRefuse what (RefusalOf.FilterRefused fault)
MayCome (TextRefused line fault) what = ReadsLines what
MayCome _ what = Unit {0}

-- the words ask for a line of which the outcome may come
pub record ComesOfLine (words : List (List ℕ)) (outcome : Outcome) : Type 0 where
  pub what : Line
  pub shape : HasShape words what
  pub may : MayCome outcome what

-- words that ask for no line end in Usage, and memory may be wanting while words are read; every other outcome comes of a
-- line that the words ask for
abbrev pub IsOfItsCommand : List (List ℕ) → Outcome → Type 0
IsOfItsCommand words outcome = (outcome ≡ Usage) ⊎ (outcome ≡ OutOfMemory) ⊎ ComesOfLine words outcome
