-- What a run does before the lines of its outcome, from what its stages say.
use Rattle.std.proofs.Common.{◌≡◌, ◌≤◌, inr, List, ℕ, Ok, Err, refl, subst, arith}
use Rattle.ax_command.specs.Outcomes.{outcome_of_stop, outcome_of_job_stop}
use Rattle.ax_command.specs.declared.outcome.JobStop.{JobStop}
use Rattle.ax_command.specs.declared.outcome.Outcome.{Outcome}
use Rattle.ax_command.specs.declared.outcome.Outcome.TheVariants.{Usage, OutOfMemory}
use Rattle.ax_load.specs.declared.fault.LoadStop.{LoadStop}
use Rattle.ax_endpoints.specs.Changes.{Changes, IsUnasked}
use Rattle.ax_blocks.specs.Streams.{IsIdle}
use Rattle.ax_words.specs.Words.{HasNoShape}
use Rattle.ax_words.specs.declared.line.Line.{Line}
use Rattle.ax_app.proofs.Memory.{asks}
use Rattle.ax_app.specs.Commands.{RunsLine}
use Rattle.ax_app.specs.Counting.{LoadsEach, LoadsUpTo}
use Rattle.ax_app.specs.Gateway.{Outside, Obeys, ObeysLine, ObeysLoaded}
use Rattle.ax_app.specs.NamedFiles.{NamedFiles, all_names, Given, NamedGive, NamedEnd}
use Rattle.ax_app.specs.Rows.{row_of}
use Rattle.ax_app.specs.Running.{Runs, at_words, no_words, at_files, before_input, in_task}

-- ---- a line over what its files gave

pub loaded_ran : (line : Line) (given : Given) (x : Changes) (outcome : Outcome) → RunsLine line given x (Ok outcome) → ObeysLoaded line given x outcome
loaded_ran line given x outcome h = record {
  runs = λ words files c shape give loads. in_task h.runs.task (record { what = line; shape = shape; given = given; give = give; is = h.runs.is }) loads h.runs.runs;
  first = h.first;
  later = h.later;
}

pub loaded_stopped : (line : Line) (given : Given) (x : Changes) (stop : JobStop) (outcome : Outcome) → outcome ≡ outcome_of_job_stop stop → RunsLine line given x (Err stop) → ObeysLoaded line given x outcome
loaded_stopped line given x stop outcome is h = record {
  runs = λ words files c shape give loads. before_input stop (record { what = line; shape = shape; given = given; give = give; stopped = h.stopped }) loads is h.idle;
  first = λ e. inr (h.idle.untouched, h.idle.out);
  later = h.later;
}

-- ---- a line, its files first

-- over files that have the names of the line's
module _ (line : Line) (named : NamedFiles) (same : named ≡ (row_of line).files) (w : Outside) (faults : w.library.faults ≤ w.library.faults') (taken : w.library.taken ≤ w.library.taken') where
  pub line_obeyed : (given : Given) (outcome : Outcome) → NamedGive named w.files given → LoadsEach (all_names named) w.files w.library → ObeysLoaded line given w.io outcome → ObeysLine line w outcome
  line_obeyed given outcome gives loads h = λ words shape. record {
    runs = h.runs words w.files w.library shape (subst (λ n. NamedGive n w.files given) same gives) (subst (λ n. LoadsEach (all_names n) w.files w.library) same loads);
    first = asks words line w.io outcome shape h.first;
    later = record { library = faults; loaded = taken; source = h.later.source; out = h.later.out; report = h.later.report };
  }

  pub line_unloaded : (stop : LoadStop) (outcome : Outcome) → NamedEnd named w.files w.library stop → LoadsUpTo (all_names named) w.files w.library stop → outcome ≡ outcome_of_stop stop → IsIdle w.io.source w.io.out w.io.report → ObeysLine line w outcome
  line_unloaded stop outcome ends through is idle = λ words shape. record {
    runs = at_files stop (record { what = line; shape = shape; ends = subst (λ n. NamedEnd n w.files w.library stop) same ends }) (subst (λ n. LoadsUpTo (all_names n) w.files w.library stop) same through) is idle;
    first = λ e. inr (idle.untouched, idle.out);
    later = record { library = faults; loaded = taken; source = omega (arith, idle.source_quiet); out = omega (arith, idle.out_quiet); report = omega (arith, idle.report_quiet) };
  }

-- ---- words that ask for no line, or that weren't read

none_obeyed : (words : List (List ℕ)) (w : Outside) (outcome : Outcome) → Runs words w.files w.library w.io.source w.io.out w.io.report outcome → IsUnasked w.library → IsIdle w.io.source w.io.out w.io.report → Obeys words w outcome
none_obeyed words w outcome runs unasked idle = record {
  runs = runs;
  first = λ e. inr (idle.untouched, idle.out);
  later = record {
    library = omega (arith, unasked.faults);
    loaded = omega (arith, unasked.taken);
    source = omega (arith, idle.source_quiet);
    out = omega (arith, idle.out_quiet);
    report = omega (arith, idle.report_quiet);
  };
}

pub words_refused : (words : List (List ℕ)) (w : Outside) → HasNoShape words → IsUnasked w.library → IsIdle w.io.source w.io.out w.io.report → Obeys words w Usage
words_refused words w none unasked idle = none_obeyed words w Usage (at_words none refl unasked idle) unasked idle

pub words_unread : (words : List (List ℕ)) (w : Outside) → IsUnasked w.library → IsIdle w.io.source w.io.out w.io.report → Obeys words w OutOfMemory
words_unread words w unasked idle = none_obeyed words w OutOfMemory (no_words refl unasked idle) unasked idle
