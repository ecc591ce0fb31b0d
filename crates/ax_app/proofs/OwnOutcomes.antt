-- Of which lines an outcome may come.
use Rattle.std.proofs.Common.{◌≡◌, ℕ, ◌≤◌, ◌⊎◌, inl, inr, List, Option, sym, subst, arith}
use Rattle.ax_lines.specs.declared.text_fault.TextFault.{TextFault}
use Rattle.ax_command.specs.Outcomes.{outcome_of_stop, outcome_of_end, outcome_of_lines, outcome_of_job_stop}
use Rattle.ax_command.specs.declared.outcome.JobStop.{JobStop}
use Rattle.ax_command.specs.declared.outcome.JobStop.TheVariants as JobStopOf
use Rattle.ax_command.specs.declared.outcome.Outcome.{Outcome}
use Rattle.ax_command.specs.declared.outcome.Refusal.TheVariants.{OtherCategory, ExpansionUnused, FilterRefused}
use Rattle.ax_lines.specs.declared.end.LinesEnd.{LinesEnd}
use Rattle.ax_lines.specs.declared.end.LinesEnd.TheVariants as LinesEndOf
use Rattle.ax_load.specs.declared.fault.LoadStop.{LoadStop}
use Rattle.ax_load.specs.declared.fault.LoadStop.TheVariants as LoadStopOf
use Rattle.ax_endpoints.specs.Changes.{LibraryCounts, SourceChange, SinkChange}
use Rattle.ax_endpoints.specs.Files.{File}
use Rattle.ax_salvage.specs.declared.salvaging.SalvageEnd.{SalvageEnd}
use Rattle.ax_salvage.specs.declared.salvaging.SalvageEnd.TheVariants as SalvageEndOf
use Rattle.ax_blocks.specs.Commands.{BlockCommand}
use Rattle.ax_blocks.specs.Streams.{IsLicensed, RefusesLength}
use Rattle.ax_blocks.specs.declared.end.StreamEnd.{StreamEnd}
use Rattle.ax_blocks.specs.declared.end.StreamEnd.TheVariants as EndOf
use Rattle.ax_words.specs.declared.line.Line.{Line}
use Rattle.ax_app.proofs.Rows.{Keeps, NeverTooLong, sound}
use Rattle.ax_app.specs.NamedFiles.{Given}
use Rattle.ax_app.specs.Rows.{row_of, IsStopped}
use Rattle.ax_app.specs.Running.{Runs, at_words, no_words, at_files, before_input, in_task, NoCountFell, ReportsBlocks, RefusesLengths, ReadsLines, MayCome, IsOfItsCommand}
use Rattle.ax_app.specs.Salvages.{outcome_of_salvage}
use Rattle.ax_app.specs.Tasks.{Task, writes, each_block, builds, salvages, refuses, TaskRuns, TextEnds, written, cut, no_memory}

-- ---- ends of tasks

-- what never comes but by a licence, came by it
by_licence : (A B : Type 0) → A ⊎ (B → ⊥) → B → A
by_licence A B (inl a) b = a
by_licence A B (inr never) b = absurd (never b)

for_length : (c : BlockCommand) (A : Type 0) (number count : ℕ) → A ⊎ NeverTooLong c → RefusesLength c number count → A
for_length c A number count (inl a) h = a
for_length c A number count (inr never) h = absurd (never number count h)

-- an outcome that is another may come of the same lines
may_too : (what : Line) (outcome other : Outcome) → outcome ≡ other → MayCome other what → MayCome outcome what
may_too what outcome other is may = subst (λ x. MayCome x what) (sym is) may

-- of a task that keeps to the line's licence
module _ (what : Line) where
  of_blocks : (c : BlockCommand) (end : StreamEnd) → Keeps (row_of what).may (each_block c) → IsLicensed c end → MayCome (outcome_of_end end) what
  of_blocks c (EndOf.Done blocks) k h = tt
  of_blocks c (EndOf.Refused fault) k h = tt
  of_blocks c EndOf.InputTooLong k h = tt
  of_blocks c (EndOf.TooLong block octets) k h = for_length c (RefusesLengths what) block octets k.1 h
  of_blocks c EndOf.ReadFault k h = tt
  of_blocks c EndOf.WriteFault k h = tt
  of_blocks c EndOf.ReportFault k h = by_licence (ReportsBlocks what) _ k.0 h
  of_blocks c EndOf.OutOfMemory k h = tt

  of_lines : (end : LinesEnd TextFault) → ReadsLines what → MayCome (outcome_of_lines end) what
  of_lines (LinesEndOf.Done blocks) k = tt
  of_lines (LinesEndOf.Refused line fault) k = k
  of_lines (LinesEndOf.LineTooLong line) k = k
  of_lines LinesEndOf.InputTooLong k = tt
  of_lines LinesEndOf.ReadFault k = tt
  of_lines LinesEndOf.WriteFault k = tt
  of_lines LinesEndOf.OutOfMemory k = tt

  of_salvage : (end : SalvageEnd) → ReportsBlocks what → MayCome (outcome_of_salvage end) what
  of_salvage (SalvageEndOf.Done blocks) k = tt
  of_salvage (SalvageEndOf.EndsInHeader block bit) k = tt
  of_salvage (SalvageEndOf.BadLen block) k = tt
  of_salvage (SalvageEndOf.EndsInBlock block bit) k = tt
  of_salvage SalvageEndOf.InputTooLong k = tt
  of_salvage SalvageEndOf.ReadFault k = tt
  of_salvage SalvageEndOf.WriteFault k = tt
  of_salvage SalvageEndOf.ReportFault k = k

  of_text : (count : ℕ) (text : List ℕ) (o : SinkChange) (outcome : Outcome) → TextEnds count text o outcome → MayCome outcome what
  of_text count text o outcome (written is h still) = may_too what outcome _ is tt
  of_text count text o outcome (cut is h once) = may_too what outcome _ is tt
  of_text count text o outcome (no_memory is h still) = may_too what outcome _ is tt

  own_in_task : (i : SourceChange) (o r : SinkChange) (outcome : Outcome) (task : Task) → Keeps (row_of what).may task → TaskRuns task i o r outcome → MayCome outcome what
  own_in_task i o r outcome (writes count text) k h = of_text count text o outcome h.ends
  own_in_task i o r outcome (each_block c) k h = may_too what outcome _ h.is (of_blocks c h.end k h.runs.licensed)
  own_in_task i o r outcome (builds catalogue) k h = may_too what outcome _ h.is (of_lines h.end k)
  own_in_task i o r outcome (salvages catalogue) k h = may_too what outcome _ h.is (of_salvage h.end k)
  own_in_task i o r outcome (refuses refusal) k h = absurd h

-- ---- refusals before the input

at_each_file : (what : Line) (stop : LoadStop) → MayCome (outcome_of_stop stop) what
at_each_file what (LoadStopOf.SpecRefused file fault) = tt
at_each_file what (LoadStopOf.CategoryTwice file category) = tt
at_each_file what (LoadStopOf.LoadFault file) = tt
at_each_file what LoadStopOf.OutOfMemory = tt

own_before : (what : Line) (given : Given) (stop : JobStop) → IsStopped what given stop → MayCome (outcome_of_job_stop stop) what
own_before what given (JobStopOf.Refused (OtherCategory old new)) h = (sound what).keeps given _ h
own_before what given (JobStopOf.Refused (ExpansionUnused category)) h = (sound what).keeps given _ h
own_before what given (JobStopOf.Refused (FilterRefused fault)) h = (sound what).keeps given _ h
own_before what given JobStopOf.OutOfMemory h = tt

-- ---- of a run

pub of_its_command : (words : List (List ℕ)) (files : Option (List File)) (c : LibraryCounts) (i : SourceChange) (o r : SinkChange) (outcome : Outcome) → Runs words files c i o r outcome → IsOfItsCommand words outcome
of_its_command words files c i o r outcome (at_words none is unasked idle) = inl is
of_its_command words files c i o r outcome (no_words is unasked idle) = inr (inl is)
of_its_command words files c i o r outcome (at_files stop h loads is idle) = inr (inr (record { what = h.what; shape = h.shape; may = may_too h.what outcome _ is (at_each_file h.what stop) }))
of_its_command words files c i o r outcome (before_input stop h loads is idle) = inr (inr (record { what = h.what; shape = h.shape; may = may_too h.what outcome _ is (own_before h.what h.given stop h.stopped) }))
of_its_command words files c i o r outcome (in_task task d loads h) =
    inr (inr (record { what = d.what; shape = d.shape; may = own_in_task d.what i o r outcome task ((sound d.what).keeps d.given task d.is) h }))

-- ---- counts

pub later_on : (c : LibraryCounts) (i : SourceChange) (o : SinkChange) (held between held' : Option (List ℕ)) (faults counted faults' : ℕ) → counted ≤ faults'
    → NoCountFell c i o (record { held = held; held' = between; faults = faults; faults' = counted }) → NoCountFell c i o (record { held = held; held' = held'; faults = faults; faults' = faults' })
later_on c i o held between held' faults counted faults' more n = record {
  library = n.library;
  loaded = n.loaded;
  source = n.source;
  out = n.out;
  report = let a : faults ≤ counted = n.report in omega arith;
}
