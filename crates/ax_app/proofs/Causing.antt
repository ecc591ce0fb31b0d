-- What an outcome says of the outside.
use Rattle.std.proofs.Common.{ℕ, ◌+◌, ◌<◌, List, Option, sym, subst}
use Rattle.ax_lines.specs.declared.text_fault.TextFault.{TextFault}
use Rattle.ax_command.specs.Outcomes.{outcome_of_stop, outcome_of_end, outcome_of_lines, outcome_of_job_stop}
use Rattle.ax_command.specs.declared.outcome.JobStop.{JobStop}
use Rattle.ax_command.specs.declared.outcome.JobStop.TheVariants as JobStopOf
use Rattle.ax_command.specs.declared.outcome.Outcome.{Outcome}
use Rattle.ax_command.specs.declared.outcome.Outcome.TheVariants.{Done, Usage, SpecRefused, CategoryTwice, InputRefused, TextRefused, MigratedTooLong, InputTooLong, LoadFault, ReadFault, WriteFault, ReportFault, OutOfMemory, OtherCategory, ExpansionUnused, FilterRefused}
use Rattle.ax_command.specs.declared.outcome.Refusal.TheVariants as RefusalOf
use Rattle.ax_lines.specs.Runs as OfLines
use Rattle.ax_lines.specs.declared.end.LinesEnd.{LinesEnd}
use Rattle.ax_lines.specs.declared.end.LinesEnd.TheVariants as LinesEndOf
use Rattle.ax_load.specs.declared.fault.LoadStop.{LoadStop}
use Rattle.ax_load.specs.declared.fault.LoadStop.TheVariants as LoadStopOf
use Rattle.ax_endpoints.specs.Changes.{LibraryCounts, SourceChange, SinkChange}
use Rattle.ax_endpoints.specs.Files.{File}
use Rattle.ax_endpoints.specs.Told.{Rose}
use Rattle.ax_salvage.specs.Runs as OfSalvage
use Rattle.ax_salvage.specs.declared.salvaging.SalvageEnd.{SalvageEnd}
use Rattle.ax_salvage.specs.declared.salvaging.SalvageEnd.TheVariants as SalvageEndOf
use Rattle.ax_blocks.specs.Ending.{longest_input}
use Rattle.ax_blocks.specs.Streams.{IsCaused}
use Rattle.ax_blocks.specs.declared.end.StreamEnd.{StreamEnd}
use Rattle.ax_blocks.specs.declared.end.StreamEnd.TheVariants as EndOf
use Rattle.ax_app.specs.Tasks.{Task, writes, each_block, builds, salvages, refuses, TextEnds, written, cut, no_memory, TaskRuns}
use Rattle.ax_app.specs.Running.{Runs, at_words, no_words, at_files, before_input, in_task, Causes}
use Rattle.ax_app.specs.Salvages.{outcome_of_salvage}

-- a fault of the outside comes only where its count rose, and a limit only where more octets were taken
abbrev IsCausedBy : SourceChange → SinkChange → SinkChange → Outcome → Type 0
IsCausedBy i o r ReadFault = Rose i.faults i.faults'
IsCausedBy i o r WriteFault = Rose o.faults o.faults'
IsCausedBy i o r ReportFault = Rose r.faults r.faults'
IsCausedBy i o r InputTooLong = i.taken + longest_input < i.taken'
IsCausedBy i o r (Done blocks) = Unit {0}
IsCausedBy i o r Usage = Unit {0}
IsCausedBy i o r (SpecRefused file fault) = Unit {0}
IsCausedBy i o r (CategoryTwice file category) = Unit {0}
IsCausedBy i o r (InputRefused fault) = Unit {0}
IsCausedBy i o r (TextRefused line fault) = Unit {0}
IsCausedBy i o r (MigratedTooLong block octets) = Unit {0}
IsCausedBy i o r (LoadFault file) = Unit {0}
IsCausedBy i o r OutOfMemory = Unit {0}
IsCausedBy i o r (OtherCategory old new) = Unit {0}
IsCausedBy i o r (ExpansionUnused category) = Unit {0}
IsCausedBy i o r (FilterRefused fault) = Unit {0}

module _ (i : SourceChange) (o r : SinkChange) where
  caused_at_files : (stop : LoadStop) → IsCausedBy i o r (outcome_of_stop stop)
  caused_at_files (LoadStopOf.SpecRefused file fault) = tt
  caused_at_files (LoadStopOf.CategoryTwice file category) = tt
  caused_at_files (LoadStopOf.LoadFault file) = tt
  caused_at_files LoadStopOf.OutOfMemory = tt

  caused_before : (stop : JobStop) → IsCausedBy i o r (outcome_of_job_stop stop)
  caused_before (JobStopOf.Refused (RefusalOf.OtherCategory old new)) = tt
  caused_before (JobStopOf.Refused (RefusalOf.ExpansionUnused category)) = tt
  caused_before (JobStopOf.Refused (RefusalOf.FilterRefused fault)) = tt
  caused_before JobStopOf.OutOfMemory = tt

  caused_by_text : (count : ℕ) (text : List ℕ) (outcome : Outcome) → TextEnds count text o outcome → IsCausedBy i o r outcome
  caused_by_text count text outcome (written is h still) = subst (IsCausedBy i o r) (sym is) tt
  caused_by_text count text outcome (cut is h once) = subst (IsCausedBy i o r) (sym is) h.rose
  caused_by_text count text outcome (no_memory is h still) = subst (IsCausedBy i o r) (sym is) tt

  caused_by_blocks : (end : StreamEnd) → IsCaused longest_input i o r end → IsCausedBy i o r (outcome_of_end end)
  caused_by_blocks (EndOf.Done blocks) h = tt
  caused_by_blocks (EndOf.Refused fault) h = tt
  caused_by_blocks EndOf.InputTooLong h = h
  caused_by_blocks (EndOf.TooLong block octets) h = tt
  caused_by_blocks EndOf.ReadFault h = h
  caused_by_blocks EndOf.WriteFault h = h
  caused_by_blocks EndOf.ReportFault h = h
  caused_by_blocks EndOf.OutOfMemory h = tt

  caused_by_lines : (end : LinesEnd TextFault) → OfLines.IsCaused longest_input i o end → IsCausedBy i o r (outcome_of_lines end)
  caused_by_lines (LinesEndOf.Done blocks) h = tt
  caused_by_lines (LinesEndOf.Refused line fault) h = tt
  caused_by_lines (LinesEndOf.LineTooLong line) h = tt
  caused_by_lines LinesEndOf.InputTooLong h = h
  caused_by_lines LinesEndOf.ReadFault h = h
  caused_by_lines LinesEndOf.WriteFault h = h
  caused_by_lines LinesEndOf.OutOfMemory h = tt

  caused_by_salvage : (end : SalvageEnd) → OfSalvage.IsCaused longest_input i o r end → IsCausedBy i o r (outcome_of_salvage end)
  caused_by_salvage (SalvageEndOf.Done blocks) h = tt
  caused_by_salvage (SalvageEndOf.EndsInHeader block bit) h = tt
  caused_by_salvage (SalvageEndOf.BadLen block) h = tt
  caused_by_salvage (SalvageEndOf.EndsInBlock block bit) h = tt
  caused_by_salvage SalvageEndOf.InputTooLong h = h
  caused_by_salvage SalvageEndOf.ReadFault h = h
  caused_by_salvage SalvageEndOf.WriteFault h = h
  caused_by_salvage SalvageEndOf.ReportFault h = h

  caused_in_task : (task : Task) (outcome : Outcome) → TaskRuns task i o r outcome → IsCausedBy i o r outcome
  caused_in_task (writes count text) outcome h = caused_by_text count text outcome h.ends
  caused_in_task (each_block c) outcome h = subst (IsCausedBy i o r) (sym h.is) (caused_by_blocks h.end h.runs.caused)
  caused_in_task (builds catalogue) outcome h = subst (IsCausedBy i o r) (sym h.is) (caused_by_lines h.end h.runs.caused)
  caused_in_task (salvages catalogue) outcome h = subst (IsCausedBy i o r) (sym h.is) (caused_by_salvage h.end h.runs.caused)
  caused_in_task (refuses refusal) outcome h = absurd h

  caused : (words : List (List ℕ)) (files : Option (List File)) (c : LibraryCounts) (outcome : Outcome) → Runs words files c i o r outcome → IsCausedBy i o r outcome
  caused words files c outcome (at_words none is unasked idle) = subst (IsCausedBy i o r) (sym is) tt
  caused words files c outcome (no_words is unasked idle) = subst (IsCausedBy i o r) (sym is) tt
  caused words files c outcome (at_files stop h loads is idle) = subst (IsCausedBy i o r) (sym is) (caused_at_files stop)
  caused words files c outcome (before_input stop h loads is idle) = subst (IsCausedBy i o r) (sym is) (caused_before stop)
  caused words files c outcome (in_task task d loads h) = caused_in_task task outcome h

pub causes : (words : List (List ℕ)) (files : Option (List File)) (c : LibraryCounts) (i : SourceChange) (o r : SinkChange) (outcome : Outcome) → Runs words files c i o r outcome → Causes i o r outcome
causes words files c i o r outcome runs =
    let h = caused i o r words files c outcome runs in
    record { read = λ e. subst (IsCausedBy i o r) e h; write = λ e. subst (IsCausedBy i o r) e h; report = λ e. subst (IsCausedBy i o r) e h; too_long = λ e. subst (IsCausedBy i o r) e h }
