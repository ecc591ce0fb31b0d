-- What a command does once its files are accepted: its task, and what comes of each.
use Rattle.std.specs.Prelude.{◌≡◌, ℕ, ◌+◌, ◌≤◌, List, []}
use Rattle.ax_build_work.specs.BuildCommand.{build_command}
use Rattle.ax_lines.specs.declared.text_fault.TextFault.{TextFault}
use Rattle.ax_command.specs.Outcomes.{outcome_of_end, outcome_of_lines}
use Rattle.ax_command.specs.declared.outcome.JobStop.{JobStop}
use Rattle.ax_command.specs.declared.outcome.JobStop.TheVariants as JobStopOf
use Rattle.ax_command.specs.declared.outcome.Outcome.{Outcome}
use Rattle.ax_command.specs.declared.outcome.Outcome.TheVariants.{Done, WriteFault, OutOfMemory}
use Rattle.ax_command.specs.declared.outcome.Refusal.{Refusal}
use Rattle.ax_lines.specs.Commands as Lines
use Rattle.ax_lines.specs.Commands.{LineAnswer}
use Rattle.ax_lines.specs.Ending.{longest_line}
use Rattle.ax_lines.specs.Runs.{LinesAnswer, LinesRun}
use Rattle.ax_lines.specs.declared.end.LinesEnd.{LinesEnd}
use Rattle.ax_format.specs.Blocks.{BlockTree}
use Rattle.ax_format.specs.Specification.{SpecTree}
use Rattle.ax_endpoints.specs.Changes.{SourceChange, SinkChange, IsUntouched, Gains, GainsNothing, GainsPart}
use Rattle.ax_salvage.specs.Runs.{SalvageRuns}
use Rattle.ax_salvage.specs.Salvaged.{Salvaged}
use Rattle.ax_salvage.specs.declared.salvaging.SalvageEnd.{SalvageEnd}
use Rattle.ax_blocks.specs.Commands.{BlockCommand, output_of, report_of}
use Rattle.ax_blocks.specs.Ending.{longest_input}
use Rattle.ax_blocks.specs.Streams.{StreamAnswers, StreamRuns}
use Rattle.ax_blocks.specs.declared.end.StreamEnd.{StreamEnd}
use Rattle.ax_app.specs.Salvages.{outcome_of_salvage}

-- it writes a text, which counts so many blocks, and reads no input, or it answers each block of the input, or it builds a
-- block of each line of the input that has a token, under this catalogue; or it salvages the blocks of the input, under this
-- catalogue; or it refuses what else the words say, or what its files have in common
pub data Task : Type 0 where
  writes : ℕ → List ℕ → Task
  each_block : BlockCommand → Task
  builds : List SpecTree → Task
  salvages : List SpecTree → Task
  refuses : Refusal → Task

abbrev pub ReadsInput : Task → Type 0
ReadsInput (writes count text) = ⊥
ReadsInput (each_block c) = Unit {0}
ReadsInput (builds catalogue) = Unit {0}
ReadsInput (salvages catalogue) = Unit {0}
ReadsInput (refuses refusal) = ⊥

-- ---- its answer: how the run ends, what it writes and what it reports

pub record TextAnswers (count : ℕ) (text : List ℕ) (outcome : Outcome) (written reported : List ℕ) : Type 0 where
  pub done : outcome ≡ Done count
  pub written_is : written ≡ text
  pub reported_is : reported ≡ []

pub record BlocksAnswer (c : BlockCommand) (input : List ℕ) (outcome : Outcome) (written reported : List ℕ) : Type 0 where
  pub blocks : List BlockTree
  pub end : StreamEnd
  pub answers : StreamAnswers c longest_input input blocks end
  pub is : outcome ≡ outcome_of_end end
  pub written_is : written ≡ output_of c 0 blocks
  pub reported_is : reported ≡ report_of c 0 blocks

pub record BuildAnswers (catalogue : List SpecTree) (input : List ℕ) (outcome : Outcome) (written reported : List ℕ) : Type 0 where
  pub lines : List (List ℕ)
  pub answers : List (LineAnswer TextFault)
  pub end : LinesEnd TextFault
  pub ends : LinesAnswer (build_command catalogue) longest_line longest_input input lines answers end
  pub is : outcome ≡ outcome_of_lines end
  pub written_is : written ≡ Lines.output_of answers
  pub reported_is : reported ≡ []

pub record SalvageGives (catalogue : List SpecTree) (input : List ℕ) (outcome : Outcome) (written reported : List ℕ) : Type 0 where
  pub end : SalvageEnd
  pub salvaged : Salvaged catalogue input longest_input end written reported
  pub is : outcome ≡ outcome_of_salvage end

abbrev pub TaskAnswers : Task → List ℕ → Outcome → List ℕ → List ℕ → Type 0
TaskAnswers (writes count text) input outcome written reported = TextAnswers count text outcome written reported
TaskAnswers (each_block c) input outcome written reported = BlocksAnswer c input outcome written reported
TaskAnswers (builds catalogue) input outcome written reported = BuildAnswers catalogue input outcome written reported
TaskAnswers (salvages catalogue) input outcome written reported = SalvageGives catalogue input outcome written reported
TaskAnswers (refuses refusal) input outcome written reported = ⊥

-- ---- its run, whatever is told

pub data TextEnds (count : ℕ) (text : List ℕ) (o : SinkChange) (outcome : Outcome) : Type 0 where
  written : outcome ≡ Done count → Gains o text → o.faults' ≡ o.faults → TextEnds count text o outcome
  cut : outcome ≡ WriteFault → GainsPart o text → o.faults' ≤ o.faults + 1 → TextEnds count text o outcome
  no_memory : outcome ≡ OutOfMemory → GainsNothing o → o.faults' ≡ o.faults → TextEnds count text o outcome

pub record TextRuns (count : ℕ) (text : List ℕ) (i : SourceChange) (o r : SinkChange) (outcome : Outcome) : Type 0 where
  pub ends : TextEnds count text o outcome
  pub untouched : IsUntouched i
  pub report : GainsNothing r
  pub source_quiet : i.faults' ≡ i.faults
  pub report_quiet : r.faults' ≡ r.faults

pub record BlocksRun (c : BlockCommand) (i : SourceChange) (o r : SinkChange) (outcome : Outcome) : Type 0 where
  pub end : StreamEnd
  pub runs : StreamRuns c longest_input i o r end
  pub is : outcome ≡ outcome_of_end end

pub record BuildRuns (catalogue : List SpecTree) (i : SourceChange) (o r : SinkChange) (outcome : Outcome) : Type 0 where
  pub end : LinesEnd TextFault
  pub runs : LinesRun (build_command catalogue) longest_line longest_input i o end
  pub is : outcome ≡ outcome_of_lines end
  pub report : GainsNothing r
  pub report_quiet : r.faults' ≡ r.faults

pub record SalvageRun (catalogue : List SpecTree) (i : SourceChange) (o r : SinkChange) (outcome : Outcome) : Type 0 where
  pub end : SalvageEnd
  pub runs : SalvageRuns catalogue longest_input i o r end
  pub is : outcome ≡ outcome_of_salvage end

abbrev pub TaskRuns : Task → SourceChange → SinkChange → SinkChange → Outcome → Type 0
TaskRuns (writes count text) i o r outcome = TextRuns count text i o r outcome
TaskRuns (each_block c) i o r outcome = BlocksRun c i o r outcome
TaskRuns (builds catalogue) i o r outcome = BuildRuns catalogue i o r outcome
TaskRuns (salvages catalogue) i o r outcome = SalvageRun catalogue i o r outcome
TaskRuns (refuses refusal) i o r outcome = ⊥

-- ---- of a command whose tasks are these

-- one of them was run
pub record RunsTask (IsTask : Task → Type 0) (i : SourceChange) (o r : SinkChange) (outcome : Outcome) : Type 0 where
  pub task : Task
  pub is : IsTask task
  pub runs : TaskRuns task i o r outcome

-- one of them is a refusal, or memory was wanting before anything was taken or written
abbrev pub IsStoppedBy : (Task → Type 0) → JobStop → Type 0
IsStoppedBy IsTask (JobStopOf.Refused refusal) = IsTask (refuses refusal)
IsStoppedBy IsTask JobStopOf.OutOfMemory = Unit {0}
