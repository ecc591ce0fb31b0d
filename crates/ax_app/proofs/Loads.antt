-- What is taken from the library and counted, stage by stage.
use Rattle.std.proofs.Common.{◌≡◌, ℕ, ◌+◌, ◌≤◌, false, List, [], ◌∷◌, Option, None, Some, Err, refl, sym, subst}
use Rattle.ax_app.specs.Counting.{CountsAt, LoadsEach, LoadsUpTo, NoneCounted, CountsOnly}
use Rattle.ax_app.specs.NamedFiles.{NamedFiles, one_file, with_expansion, spec_names, are_distinct, expansion_name, only, GivesExpansion, NamedGive, NamedEnd, in_specs, in_expansion}
use Rattle.ax_app.specs.Running.{Runs, at_words, no_words, at_files, before_input, in_task}
use Rattle.ax_app.specs.Salvages.{outcome_of_salvage}
use Rattle.ax_app.specs.Tasks.{Task, writes, each_block, builds, salvages, refuses, TaskRuns, TextEnds, written, cut, no_memory}
use Rattle.ax_check.specs.declared.accepted.Accepted.{Accepted}
use Rattle.ax_lines.specs.declared.text_fault.TextFault.{TextFault}
use Rattle.ax_command.specs.Outcomes.{outcome_of_stop, outcome_of_end, outcome_of_lines, outcome_of_job_stop}
use Rattle.ax_command.specs.declared.outcome.JobStop.{JobStop}
use Rattle.ax_command.specs.declared.outcome.JobStop.TheVariants as JobStopOf
use Rattle.ax_command.specs.declared.outcome.Outcome.{Outcome}
use Rattle.ax_command.specs.declared.outcome.Refusal.TheVariants as RefusalOf
use Rattle.ax_lines.specs.Runs as Lines
use Rattle.ax_lines.specs.declared.end.LinesEnd.{LinesEnd}
use Rattle.ax_lines.specs.declared.end.LinesEnd.TheVariants as LinesEndOf
use Rattle.ax_expand.specs.Expansion.{ExpansionTree}
use Rattle.ax_load.proofs.TakenFiles.{stop_took, took_nothing}
use Rattle.ax_load.specs.Counting.{TookFiles, TookAt, TookThrough, UnlessLoadFault}
use Rattle.ax_load.specs.Languages.{category_files, expansion_files}
use Rattle.ax_load.specs.Loading.{FilesGive, GivesSpec, GivesIn, StopsAtFile, EitherEnds, first, second, by_file}
use Rattle.ax_load.specs.declared.fault.LoadStop.{LoadStop}
use Rattle.ax_load.specs.declared.fault.LoadStop.TheVariants as LoadStopOf
use Rattle.ax_format.specs.Specification.{SpecTree}
use Rattle.ax_endpoints.specs.Changes.{LibraryCounts, SourceChange, SinkChange}
use Rattle.ax_endpoints.specs.Files.{File}
use Rattle.ax_salvage.specs.Runs as Salvages
use Rattle.ax_salvage.specs.declared.salvaging.SalvageEnd.{SalvageEnd}
use Rattle.ax_salvage.specs.declared.salvaging.SalvageEnd.TheVariants as SalvageEndOf
use Rattle.ax_blocks.specs.Streams as Streams
use Rattle.ax_blocks.specs.Streams.{IsIdle}
use Rattle.ax_blocks.specs.declared.end.StreamEnd.{StreamEnd}
use Rattle.ax_blocks.specs.declared.end.StreamEnd.TheVariants as EndOf

-- ---- the files

module _ (files : Option (List File)) (c : LibraryCounts) (stop : LoadStop) where
  -- a file alone
  pub one_gives : (name : List ℕ) (spec : SpecTree) → GivesSpec files name spec → NamedGive (one_file name) files (only (spec ∷ []))
  one_gives name spec h = record { specs = record { each = (h, tt); categories = λ want. (refl, tt) }; expansion = tt }

  pub one_ends : (name : List ℕ) → StopsAtFile category_files files c name 0 stop → NamedEnd (one_file name) files c stop
  one_ends name h = in_specs (record { earlier = []; name = name; more = []; split = refl; before = []; give = record { each = tt; categories = λ want. tt }; ends = by_file h })

  -- files without an expansion file
  pub specs_give : (named : NamedFiles) (specs : List SpecTree) → expansion_name named ≡ None → FilesGive (are_distinct named) files (spec_names named) specs → NamedGive named files (only specs)
  specs_give named specs none h = record { specs = h; expansion = subst (λ o. GivesExpansion o files None) (sym none) tt }

  -- a category file and an expansion file
  pub both_give : (name expansion : List ℕ) (spec : SpecTree) (x : ExpansionTree) → FilesGive false files (name ∷ []) (spec ∷ []) → GivesIn expansion_files files expansion x → NamedGive (with_expansion name expansion) files (record { specs = spec ∷ []; expansion = Some x })
  both_give name expansion spec x h k = record { specs = h; expansion = k }

  -- by the names that were read
  pub both_end : (name expansion read also : List ℕ) → read ≡ name → also ≡ expansion → EitherEnds files c read also stop → NamedEnd (with_expansion name expansion) files c stop
  both_end name expansion read also same too h = ends (subst (λ n. EitherEnds files c name n stop) too (subst (λ n. EitherEnds files c n also stop) same h))
    where
      ends : EitherEnds files c name expansion stop → NamedEnd (with_expansion name expansion) files c stop
      ends (first k) = in_specs k
      ends (second spec give k) = in_expansion expansion refl (spec ∷ []) give k

-- ---- what is taken

no_names : (name : List ℕ) (names : List (List ℕ)) → name ∷ names ≡ [] → ⊥
no_names name names e = absurd (cc)

module _ (files : Option (List File)) (c : LibraryCounts) where
  pub some_loaded : (name : List ℕ) (names : List (List ℕ)) → c.faults' ≡ c.faults → TookFiles files c.taken c.taken' (name ∷ names) → LoadsEach (name ∷ names) files c
  some_loaded name names quiet took = record { quiet = quiet; took = took; unasked = λ none. absurd (no_names name names none) }

  counts_at : (A : Type 0) (stop : LoadStop) → c.faults' ≤ c.faults + 1 → UnlessLoadFault {A = A} (Err stop) (c.faults' ≡ c.faults) → CountsAt stop c
  counts_at A (LoadStopOf.LoadFault file) once quiet = once
  counts_at A (LoadStopOf.SpecRefused file fault) once quiet = quiet
  counts_at A (LoadStopOf.CategoryTwice file category) once quiet = quiet
  counts_at A LoadStopOf.OutOfMemory once quiet = quiet

  pub loaded_up_to : (A : Type 0) (stop : LoadStop) (names : List (List ℕ)) → c.faults' ≤ c.faults + 1 → UnlessLoadFault {A = A} (Err stop) (c.faults' ≡ c.faults) → TookThrough files c.taken c.taken' names stop → LoadsUpTo names files c stop
  loaded_up_to A stop names once quiet took = record { counts = counts_at A stop once quiet; took = took }

  pub one_up_to : (stop : LoadStop) (name : List ℕ) → c.faults' ≤ c.faults + 1 → UnlessLoadFault {A = Accepted} (Err stop) (c.faults' ≡ c.faults) → StopsAtFile category_files files c name 0 stop → TookAt files c.taken c.taken' name stop → LoadsUpTo (name ∷ []) files c stop
  one_up_to stop name once quiet stops took =
      loaded_up_to Accepted stop (name ∷ []) once quiet (stop_took files files (name ∷ []) name 0 0 c.taken c.taken c.taken' refl refl refl (took_nothing files c.taken) category_files c stop stops took)

pub none_loaded : (files : Option (List File)) (faults taken : ℕ) → LoadsEach [] files (record { faults = faults; faults' = faults; taken = taken; taken' = taken })
none_loaded files faults taken = record { quiet = refl; took = took_nothing files taken; unasked = λ none. record { faults = refl; taken = refl } }

-- ---- faults

module _ (c : LibraryCounts) (i : SourceChange) (o r : SinkChange) where
  at_stop : (stop : LoadStop) → CountsAt stop c → IsIdle i o r → CountsOnly c i o r (outcome_of_stop stop)
  at_stop (LoadStopOf.LoadFault file) h idle = (h, idle.source_quiet, idle.out_quiet, idle.report_quiet)
  at_stop (LoadStopOf.SpecRefused file fault) h idle = record { library = h; source = idle.source_quiet; out = idle.out_quiet; report = idle.report_quiet }
  at_stop (LoadStopOf.CategoryTwice file category) h idle = record { library = h; source = idle.source_quiet; out = idle.out_quiet; report = idle.report_quiet }
  at_stop LoadStopOf.OutOfMemory h idle = record { library = h; source = idle.source_quiet; out = idle.out_quiet; report = idle.report_quiet }

  none_counted : c.faults' ≡ c.faults → IsIdle i o r → NoneCounted c i o r
  none_counted quiet idle = record { library = quiet; source = idle.source_quiet; out = idle.out_quiet; report = idle.report_quiet }

  before : (stop : JobStop) → NoneCounted c i o r → CountsOnly c i o r (outcome_of_job_stop stop)
  before (JobStopOf.Refused (RefusalOf.OtherCategory old new)) h = h
  before (JobStopOf.Refused (RefusalOf.ExpansionUnused category)) h = h
  before (JobStopOf.Refused (RefusalOf.FilterRefused fault)) h = h
  before JobStopOf.OutOfMemory h = h

  of_text : (count : ℕ) (text : List ℕ) (outcome : Outcome) → c.faults' ≡ c.faults → i.faults' ≡ i.faults → r.faults' ≡ r.faults → TextEnds count text o outcome → CountsOnly c i o r outcome
  of_text count text outcome library source report (written is h still) = subst (CountsOnly c i o r) (sym is) (record { library = library; source = source; out = still; report = report })
  of_text count text outcome library source report (cut is h once) = subst (CountsOnly c i o r) (sym is) (library, source, once, report)
  of_text count text outcome library source report (no_memory is h still) = subst (CountsOnly c i o r) (sym is) (record { library = library; source = source; out = still; report = report })

  of_blocks : (end : StreamEnd) → c.faults' ≡ c.faults → Streams.CountsOnly i o r end → CountsOnly c i o r (outcome_of_end end)
  of_blocks (EndOf.Done n) library h = record { library = library; source = h.0; out = h.1; report = h.2 }
  of_blocks (EndOf.Refused fault) library h = record { library = library; source = h.0; out = h.1; report = h.2 }
  of_blocks EndOf.InputTooLong library h = record { library = library; source = h.0; out = h.1; report = h.2 }
  of_blocks (EndOf.TooLong block octets) library h = record { library = library; source = h.0; out = h.1; report = h.2 }
  of_blocks EndOf.ReadFault library h = (library, h.0, h.1, h.2)
  of_blocks EndOf.WriteFault library h = (library, h.0, h.1, h.2)
  of_blocks EndOf.ReportFault library h = (library, h.0, h.1, h.2)
  of_blocks EndOf.OutOfMemory library h = record { library = library; source = h.0; out = h.1; report = h.2 }

  of_lines : (end : LinesEnd TextFault) → c.faults' ≡ c.faults → r.faults' ≡ r.faults → Lines.CountsOnly i o end → CountsOnly c i o r (outcome_of_lines end)
  of_lines (LinesEndOf.Done n) library report h = record { library = library; source = h.0; out = h.1; report = report }
  of_lines (LinesEndOf.Refused line fault) library report h = record { library = library; source = h.0; out = h.1; report = report }
  of_lines (LinesEndOf.LineTooLong line) library report h = record { library = library; source = h.0; out = h.1; report = report }
  of_lines LinesEndOf.InputTooLong library report h = record { library = library; source = h.0; out = h.1; report = report }
  of_lines LinesEndOf.ReadFault library report h = (library, h.0, h.1, report)
  of_lines LinesEndOf.WriteFault library report h = (library, h.0, h.1, report)
  of_lines LinesEndOf.OutOfMemory library report h = record { library = library; source = h.0; out = h.1; report = report }

  of_salvage : (end : SalvageEnd) → c.faults' ≡ c.faults → Salvages.CountsOnly i o r end → CountsOnly c i o r (outcome_of_salvage end)
  of_salvage (SalvageEndOf.Done n) library h = record { library = library; source = h.0; out = h.1; report = h.2 }
  of_salvage (SalvageEndOf.EndsInHeader block bit) library h = record { library = library; source = h.0; out = h.1; report = h.2 }
  of_salvage (SalvageEndOf.BadLen block) library h = record { library = library; source = h.0; out = h.1; report = h.2 }
  of_salvage (SalvageEndOf.EndsInBlock block bit) library h = record { library = library; source = h.0; out = h.1; report = h.2 }
  of_salvage SalvageEndOf.InputTooLong library h = record { library = library; source = h.0; out = h.1; report = h.2 }
  of_salvage SalvageEndOf.ReadFault library h = (library, h.0, h.1, h.2)
  of_salvage SalvageEndOf.WriteFault library h = (library, h.0, h.1, h.2)
  of_salvage SalvageEndOf.ReportFault library h = (library, h.0, h.1, h.2)

  in_a_task : (task : Task) (outcome : Outcome) → c.faults' ≡ c.faults → TaskRuns task i o r outcome → CountsOnly c i o r outcome
  in_a_task (writes count text) outcome library h = of_text count text outcome library h.source_quiet h.report_quiet h.ends
  in_a_task (each_block k) outcome library h = subst (CountsOnly c i o r) (sym h.is) (of_blocks h.end library h.runs.counts)
  in_a_task (builds catalogue) outcome library h = subst (CountsOnly c i o r) (sym h.is) (of_lines h.end library h.report_quiet h.runs.counts)
  in_a_task (salvages catalogue) outcome library h = subst (CountsOnly c i o r) (sym h.is) (of_salvage h.end library h.runs.counts)
  in_a_task (refuses refusal) outcome library h = absurd h

  pub counted : (words : List (List ℕ)) (files : Option (List File)) (outcome : Outcome) → Runs words files c i o r outcome → CountsOnly c i o r outcome
  counted words files outcome (at_words none is unasked idle) = subst (CountsOnly c i o r) (sym is) (none_counted unasked.faults idle)
  counted words files outcome (no_words is unasked idle) = subst (CountsOnly c i o r) (sym is) (none_counted unasked.faults idle)
  counted words files outcome (at_files stop h loads is idle) = subst (CountsOnly c i o r) (sym is) (at_stop stop loads.counts idle)
  counted words files outcome (before_input stop h loads is idle) = subst (CountsOnly c i o r) (sym is) (before stop (none_counted loads.quiet idle))
  counted words files outcome (in_task task d loads h) = in_a_task task outcome loads.quiet h

pub ruleset loads = (one_gives, one_ends, specs_give, both_give, both_end, some_loaded, loaded_up_to, one_up_to, none_loaded)
