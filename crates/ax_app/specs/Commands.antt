-- What the code of a command has done when it returns. An `Err` says why it didn't come to its input.
use Rattle.std.specs.Prelude.{◌≡◌, ℕ, Bool, true, false, List, [], ◌∷◌, Result, IfOk, IfErr, OnErr}
use Rattle.ax_command.specs.declared.outcome.JobStop.{JobStop}
use Rattle.ax_command.specs.declared.outcome.JobStop.TheVariants.{OutOfMemory}
use Rattle.ax_command.specs.declared.outcome.Outcome.{Outcome}
use Rattle.ax_expand.specs.declared.expansion.Expansion.{Expansion}
use Rattle.ax_filter.specs.OfCode.{catalogue_of, expression}
use Rattle.ax_filter.specs.declared.filter.Filter.{Filter as FilterOfCode}
use Rattle.ax_filter_work.specs.FilterCommand.{filter_command}
use Rattle.ax_format.specs.Plain.{spec_tree}
use Rattle.ax_format.specs.Specification.{SpecTree}
use Rattle.ax_format.specs.declared.spec.Spec.{Spec}
use Rattle.ax_blocks.specs.Commands.{BlockCommand}
use Rattle.ax_blocks.specs.Streams.{IsIdle}
use Rattle.ax_words.specs.declared.line.Line.{Line}
use Rattle.ax_endpoints.specs.Changes.{Changes}
use Rattle.ax_app.specs.Loaded.{with_expansion}
use Rattle.ax_app.specs.NamedFiles.{Given}
use Rattle.ax_app.specs.Rows.{row_of, OverOne, OverEditions, IsTrialTask, IsFilterTask, ExpandsBy}
use Rattle.ax_app.specs.Running.{NoFaultFell, WasIdle, WasIdleOr}
use Rattle.ax_app.specs.Tasks.{Task, each_block, TaskRuns, RunsTask, IsStoppedBy}

-- ---- a task

-- it was run, or memory was wanting before anything was taken or written
pub record RunsAs (task : Task) (x : Changes) (result : Result Outcome JobStop) : Type 0 where
  pub runs : IfOk result (TaskRuns task x.source x.out x.report)
  pub memory : IfErr result (λ stop. stop ≡ OutOfMemory)
  pub idle : OnErr result (IsIdle x.source x.out x.report)
  pub later : NoFaultFell x

-- so it is, and all memory was taken before the input was read
pub record RunsPrepared (task : Task) (x : Changes) (result : Result Outcome JobStop) : Type 0 where
  pub does : RunsAs task x result
  pub first : IfOk result (WasIdle x)

-- a command over each block of the input
abbrev pub RunsEach : BlockCommand → Changes → Result Outcome JobStop → Type 0
RunsEach command x result = RunsAs (each_block command) x result

abbrev pub RunsEachPrepared : BlockCommand → Changes → Result Outcome JobStop → Type 0
RunsEachPrepared command x result = RunsPrepared (each_block command) x result

-- that of a filter, over its catalogue
abbrev pub RunsFilterOf : FilterOfCode → Changes → Result Outcome JobStop → Type 0
RunsFilterOf filter x result = RunsEachPrepared (filter_command (expression filter) (catalogue_of filter)) x result

-- ---- a command, by its tasks and by whether it takes memory once it reads

-- one of these tasks was run, or it was stopped before anything was taken or written
pub record RunsCommand (IsTask : Task → Type 0) (takes_memory : Bool) (x : Changes) (result : Result Outcome JobStop) : Type 0 where
  pub runs : IfOk result (RunsTask IsTask x.source x.out x.report)
  pub stopped : IfErr result (IsStoppedBy IsTask)
  pub first : IfOk result (WasIdleOr takes_memory x)
  pub idle : OnErr result (IsIdle x.source x.out x.report)
  pub later : NoFaultFell x

-- over what its files gave, that of a line
abbrev pub RunsLine : Line → Given → Changes → Result Outcome JobStop → Type 0
RunsLine line given x result = RunsCommand ((row_of line).IsTask given) (row_of line).may.takes_memory x result

-- `trial` over a specification
abbrev pub RunsTrial : ℕ → ℕ → Spec → Changes → Result Outcome JobStop → Type 0
RunsTrial seed count spec x result = RunsCommand (OverOne (IsTrialTask seed count) (spec_tree spec ∷ [])) false x result

-- `filter` of that expression
abbrev pub RunsFilter : List ℕ → List SpecTree → Changes → Result Outcome JobStop → Type 0
RunsFilter expression specs x result = RunsCommand (IsFilterTask expression specs) false x result

-- that command over two editions
abbrev pub RunsEditions : (SpecTree → SpecTree → BlockCommand) → Bool → Spec → Spec → Changes → Result Outcome JobStop → Type 0
RunsEditions command takes_memory old new x result = RunsCommand (OverEditions command (spec_tree old ∷ spec_tree new ∷ [])) takes_memory x result

-- `expand`
abbrev pub RunsExpand : Spec → Expansion → Changes → Result Outcome JobStop → Type 0
RunsExpand spec expansion x result = RunsCommand (ExpandsBy (with_expansion spec expansion)) true x result
