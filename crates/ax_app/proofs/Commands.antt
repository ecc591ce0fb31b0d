-- What the code of a command has done, from what its calls say.
use Rattle.std.proofs.Common.{◌≡◌, ℕ, ◌≤◌, inl, inr, Bool, false, IsTrue, List, Option, Result, Ok, Err, IfOk, IfErr, refl, sym, ◌∙◌, subst, arith}
use Rattle.std.specs.Result.{IsErrAnd}
use Rattle.ax_build_work.specs.BuildCommand.{build_command}
use Rattle.ax_lines.specs.declared.text_fault.TextFault.{TextFault}
use Rattle.ax_command.specs.Outcomes.{outcome_of_end, outcome_of_lines}
use Rattle.ax_command.specs.declared.outcome.JobStop.{JobStop}
use Rattle.ax_command.specs.declared.outcome.JobStop.TheVariants as JobStopOf
use Rattle.ax_command.specs.declared.outcome.Outcome.{Outcome}
use Rattle.ax_command.specs.declared.outcome.Outcome.TheVariants.{Done, WriteFault, OutOfMemory}
use Rattle.ax_lines.specs.Ending.{longest_line}
use Rattle.ax_lines.specs.Runs.{LinesRun}
use Rattle.ax_lines.specs.declared.end.LinesEnd.{LinesEnd}
use Rattle.ax_format.specs.Plain.{spec_tree}
use Rattle.ax_format.specs.Specification.{SpecTree}
use Rattle.ax_format.specs.declared.spec.Spec.{Spec}
use Rattle.ax_endpoints.specs.Changes.{Changes, SourceChange, SinkChange, Wrote}
use Rattle.ax_endpoints.specs.declared.sinks.SinkFailed.{SinkFailed}
use Rattle.ax_salvage.specs.Runs.{SalvageRuns}
use Rattle.ax_salvage.specs.declared.salvaging.SalvageEnd.{SalvageEnd}
use Rattle.ax_blocks.specs.Commands.{BlockCommand}
use Rattle.ax_blocks.specs.Ending.{longest_input}
use Rattle.ax_blocks.specs.Streams.{IsIdle, StreamRuns}
use Rattle.ax_blocks.specs.declared.end.StreamEnd.{StreamEnd}
use Rattle.ax_trial.specs.Trial.{IsTrial}
use Rattle.ax_app.proofs.Memory.{was_idle, salvage_was_idle}
use Rattle.ax_app.specs.Commands.{RunsAs, RunsPrepared, RunsCommand, RunsTrial}
use Rattle.ax_app.specs.Ends.{as_stream}
use Rattle.ax_app.specs.Running.{NoFaultFell, WasIdle, WasIdleOr}
use Rattle.ax_app.specs.Salvages.{outcome_of_salvage}
use Rattle.ax_app.specs.Tasks.{Task, writes, each_block, builds, salvages, TaskRuns, RunsTask, IsStoppedBy, TextEnds, written, cut}
use Rattle.ax_app.specs.Working.{Drives}
use Rattle.ax_app.specs.declared.end.DriveEnd.{DriveEnd}

-- ---- a task, from the end of its loop

fell_of_stream : (command : BlockCommand) (limit : ℕ) (x : Changes) (end : StreamEnd) → StreamRuns command limit x.source x.out x.report end → NoFaultFell x
fell_of_stream command limit x end runs = record { source = runs.source_later; out = runs.out_later; report = runs.report_later }

pub of_blocks : (command : BlockCommand) (x : Changes) (end : StreamEnd) (outcome : Outcome) → StreamRuns command longest_input x.source x.out x.report end → outcome ≡ outcome_of_end end → RunsAs (each_block command) x (Ok outcome)
of_blocks command x end outcome runs is = record {
  runs = record { end = end; runs = runs; is = is };
  memory = tt;
  idle = tt;
  later = fell_of_stream command longest_input x end runs;
}

pub of_drive : (command other : BlockCommand) (limit : ℕ) (x : Changes) (end : DriveEnd) (outcome : Outcome) → Drives other limit x end → outcome ≡ outcome_of_end (as_stream end) → other ≡ command → limit ≡ longest_input
    → RunsPrepared (each_block command) x (Ok outcome)
of_drive command other limit x end outcome runs is same most = record {
  does = of_blocks command x (as_stream end) outcome (subst (λ n. StreamRuns command n x.source x.out x.report (as_stream end)) most (subst (λ c. StreamRuns c limit x.source x.out x.report (as_stream end)) same runs)) is;
  first = was_idle x end outcome is;
}

pub of_salvage : (catalogue other : List SpecTree) (limit : ℕ) (x : Changes) (end : SalvageEnd) (outcome : Outcome) → SalvageRuns other limit x.source x.out x.report end → outcome ≡ outcome_of_salvage end → other ≡ catalogue → limit ≡ longest_input
    → RunsPrepared (salvages catalogue) x (Ok outcome)
of_salvage catalogue other limit x end outcome runs is same most =
    let ran : SalvageRuns catalogue longest_input x.source x.out x.report end = subst (λ n. SalvageRuns catalogue n x.source x.out x.report end) most (subst (λ c. SalvageRuns c limit x.source x.out x.report end) same runs) in
    record {
      does = record {
        runs = record { end = end; runs = ran; is = is };
        memory = tt;
        idle = tt;
        later = record { source = ran.source_later; out = ran.out_later; report = ran.report_later };
      };
      first = salvage_was_idle x end outcome is;
    }

-- ---- want of memory, or a refusal

fell_idle : (x : Changes) → IsIdle x.source x.out x.report → NoFaultFell x
fell_idle x idle = record { source = omega (arith, idle.source_quiet); out = omega (arith, idle.out_quiet); report = omega (arith, idle.report_quiet) }

pub of_memory : (task : Task) (x : Changes) (stop : JobStop) → stop ≡ JobStopOf.OutOfMemory → IsIdle x.source x.out x.report → RunsAs task x (Err stop)
of_memory task x stop is idle = record { runs = tt; memory = is; idle = idle; later = fell_idle x idle }

pub of_memory_first : (task : Task) (x : Changes) (stop : JobStop) → stop ≡ JobStopOf.OutOfMemory → IsIdle x.source x.out x.report → RunsPrepared task x (Err stop)
of_memory_first task x stop is idle = record { does = of_memory task x stop is idle; first = tt }

pub stopped_command : (IsTask : Task → Type 0) (takes_memory : Bool) (x : Changes) (stop : JobStop) → IsStoppedBy IsTask stop → IsIdle x.source x.out x.report → RunsCommand IsTask takes_memory x (Err stop)
stopped_command IsTask takes_memory x stop stopped idle = record { runs = tt; stopped = stopped; first = tt; idle = idle; later = fell_idle x idle }

pub wanting_command : (IsTask : Task → Type 0) (takes_memory : Bool) (x : Changes) (stop : JobStop) → stop ≡ JobStopOf.OutOfMemory → IsIdle x.source x.out x.report → RunsCommand IsTask takes_memory x (Err stop)
wanting_command IsTask takes_memory x stop is idle = stopped_command IsTask takes_memory x stop (subst (IsStoppedBy IsTask) (sym is) tt) idle

-- what its first part answers is passed on
pub stopped_early : (IsTask : Task → Type 0) (takes_memory : Bool) (x : Changes) (result : Result Outcome JobStop) (stop : JobStop) → IsErrAnd result (λ e. e ≡ stop) → IsStoppedBy IsTask stop → IsIdle x.source x.out x.report → RunsCommand IsTask takes_memory x result
stopped_early IsTask takes_memory x (Ok outcome) stop is stopped idle = absurd is
stopped_early IsTask takes_memory x (Err e) stop is stopped idle = stopped_command IsTask takes_memory x e (subst (IsStoppedBy IsTask) (sym is) stopped) idle

-- ---- the command of a task

module _ (IsTask : Task → Type 0) (takes_memory : Bool) (task : Task) (x : Changes) (is : IsTask task) where
  task_run : (result : Result Outcome JobStop) → IfOk result (TaskRuns task x.source x.out x.report) → IfOk result (RunsTask IsTask x.source x.out x.report)
  task_run (Ok outcome) runs = record { task = task; is = is; runs = runs }
  task_run (Err stop) runs = tt

  want : (result : Result Outcome JobStop) → IfErr result (λ stop. stop ≡ JobStopOf.OutOfMemory) → IfErr result (IsStoppedBy IsTask)
  want (Ok outcome) memory = tt
  want (Err stop) memory = subst (IsStoppedBy IsTask) (sym memory) tt

  run_command : (result : Result Outcome JobStop) → IfOk result (WasIdleOr takes_memory x) → RunsAs task x result → RunsCommand IsTask takes_memory x result
  run_command result first h = record { runs = task_run result h.runs; stopped = want result h.memory; first = first; idle = h.idle; later = h.later }

  takes : (result : Result Outcome JobStop) → IsTrue takes_memory → IfOk result (WasIdleOr takes_memory x)
  takes (Ok outcome) t = λ e. inl t
  takes (Err stop) t = tt

  prepared : (result : Result Outcome JobStop) → IfOk result (WasIdle x) → IfOk result (WasIdleOr takes_memory x)
  prepared (Ok outcome) h = λ e. inr (h e)
  prepared (Err stop) h = tt

  -- of a command that takes memory once it reads, and of one that took all before
  pub takes_command : (result : Result Outcome JobStop) → IsTrue takes_memory → RunsAs task x result → RunsCommand IsTask takes_memory x result
  takes_command result t h = run_command result (takes result t) h

  pub prepared_command : (result : Result Outcome JobStop) → RunsPrepared task x result → RunsCommand IsTask takes_memory x result
  prepared_command result h = run_command result (prepared result h.first) h.does

-- ---- a text that is written, no octet taken and nothing reported

-- the output alone changes
abbrev only_out : Option (List ℕ) → ℕ → ℕ → Option (List ℕ) → ℕ → SinkChange → Changes
only_out left taken faults held faults' o =
    record { source = record { left = left; left' = left; taken = taken; taken' = taken; faults = faults; faults' = faults }; out = o; report = record { held = held; held' = held; faults = faults'; faults' = faults' } }

module _ (left : Option (List ℕ)) (taken faults : ℕ) (held : Option (List ℕ)) (faults' : ℕ) (o : SinkChange) (count : ℕ) (text : List ℕ) where
  text_ran : (outcome : Outcome) → TextEnds count text o outcome → (outcome ≡ OutOfMemory → ⊥) → o.faults ≤ o.faults' → RunsPrepared (writes count text) (only_out left taken faults held faults' o) (Ok outcome)
  text_ran outcome ends never later = record {
    does = record {
      runs = record { ends = ends; untouched = record { left = refl; taken = refl }; report = refl; source_quiet = refl; report_quiet = refl };
      memory = tt;
      idle = tt;
      later = record { source = omega arith; out = later; report = omega arith };
    };
    first = λ e. absurd (never e);
  }

  pub text_written : (result : Result Unit SinkFailed) (u : Unit) (outcome : Outcome) → result ≡ Ok u → outcome ≡ Done count → Wrote o result text → RunsPrepared (writes count text) (only_out left taken faults held faults' o) (Ok outcome)
  text_written result u outcome is done w =
      let h : Wrote o (Ok u) text = subst (λ r. Wrote o r text) is w in text_ran outcome (written done h.whole h.quiet) (λ e. absurd (let x : Done count ≡ OutOfMemory = sym done ∙ e in cc)) w.later

  pub text_cut : (result : Result Unit SinkFailed) (failed : SinkFailed) (outcome : Outcome) → result ≡ Err failed → outcome ≡ WriteFault → Wrote o result text → RunsPrepared (writes count text) (only_out left taken faults held faults' o) (Ok outcome)
  text_cut result failed outcome is fault w =
      let h : Wrote o (Err failed) text = subst (λ r. Wrote o r text) is w in text_ran outcome (cut fault h.part w.once) (λ e. absurd (let x : WriteFault ≡ OutOfMemory = sym fault ∙ e in cc)) w.later

-- a text that is another
pub same_text : (count : ℕ) (text other : List ℕ) (x : Changes) (outcome : Outcome) → text ≡ other → RunsPrepared (writes count text) x (Ok outcome) → RunsPrepared (writes count other) x (Ok outcome)
same_text count text other x outcome same h = subst (λ t. RunsPrepared (writes count t) x (Ok outcome)) same h

-- ---- `trial`

pub trial_ran : (spec : Spec) (seed count blocks : ℕ) (line text : List ℕ) (x : Changes) (outcome : Outcome) → IsTrial (spec_tree spec) seed count line → text ≡ line → blocks ≡ count → RunsPrepared (writes blocks text) x (Ok outcome)
    → RunsTrial seed count spec x (Ok outcome)
trial_ran spec seed count blocks line text x outcome trial same all h =
    prepared_command _ false (writes count line) x (record { spec = spec_tree spec; one = refl; is = record { line = line; trial = trial; is = refl } }) (Ok outcome)
    (subst (λ n. RunsPrepared (writes n line) x (Ok outcome)) all (same_text blocks text line x outcome same h))

-- ---- `build`, which reports nothing

pub build_ran : (specs : List SpecTree) (i : SourceChange) (o : SinkChange) (held : Option (List ℕ)) (faults : ℕ) (end : LinesEnd TextFault) (outcome : Outcome) → LinesRun (build_command specs) longest_line longest_input i o end → outcome ≡ outcome_of_lines end
    → RunsAs (builds specs) (record { source = i; out = o; report = record { held = held; held' = held; faults = faults; faults' = faults } }) (Ok outcome)
build_ran specs i o held faults end outcome runs is = record {
  runs = record { end = end; runs = runs; is = is; report = refl; report_quiet = refl };
  memory = tt;
  idle = tt;
  later = record { source = runs.source_later; out = runs.out_later; report = omega arith };
}

pub ruleset commands = (of_blocks, of_drive, of_salvage, of_memory, of_memory_first, stopped_command, wanting_command)
