-- Outcomes, and the ends of the stages that they stand for.
use Rattle.std.proofs.Common.{◌≡◌, ℕ}
use Rattle.ax_lines.specs.declared.text_fault.TextFault.{TextFault}
use Rattle.ax_command.specs.Outcomes.{outcome_of_stop, outcome_of_end, outcome_of_lines, outcome_of_job_stop}
use Rattle.ax_command.specs.declared.outcome.Outcome.{Outcome}
use Rattle.ax_command.specs.declared.outcome.Outcome.TheVariants.{Done, Usage, SpecRefused, CategoryTwice, InputRefused, TextRefused, MigratedTooLong, InputTooLong, LoadFault, ReadFault, WriteFault, ReportFault, OutOfMemory, OtherCategory, ExpansionUnused, FilterRefused}
use Rattle.ax_command.specs.declared.outcome.JobStop.{JobStop}
use Rattle.ax_command.specs.declared.outcome.JobStop.TheVariants as JobStopOf
use Rattle.ax_command.specs.declared.outcome.Refusal.TheVariants as RefusalOf
use Rattle.ax_lines.specs.declared.end.LinesEnd.{LinesEnd}
use Rattle.ax_lines.specs.declared.end.LinesEnd.TheVariants as LinesEndOf
use Rattle.ax_load.specs.declared.fault.LoadStop.{LoadStop}
use Rattle.ax_load.specs.declared.fault.LoadStop.TheVariants as LoadStopOf
use Rattle.ax_salvage.specs.declared.salvaging.SalvageEnd.{SalvageEnd}
use Rattle.ax_salvage.specs.declared.salvaging.SalvageEnd.TheVariants as SalvageEndOf
use Rattle.ax_blocks.specs.declared.end.StreamEnd.{StreamEnd}
use Rattle.ax_blocks.specs.declared.end.StreamEnd.TheVariants as EndOf
use Rattle.ax_app.specs.Salvages.{outcome_of_salvage}

-- an outcome that a run may have before it comes to its task
abbrev pub IsEarly : Outcome → Type 0
IsEarly (SpecRefused file fault) = Unit {0}
IsEarly (CategoryTwice file category) = Unit {0}
IsEarly (LoadFault file) = Unit {0}
IsEarly (OtherCategory old new) = Unit {0}
IsEarly (ExpansionUnused category) = Unit {0}
IsEarly (FilterRefused fault) = Unit {0}
IsEarly OutOfMemory = Unit {0}
IsEarly (Done blocks) = ⊥
IsEarly Usage = ⊥
IsEarly (InputRefused fault) = ⊥
IsEarly (TextRefused line fault) = ⊥
IsEarly (MigratedTooLong block octets) = ⊥
IsEarly InputTooLong = ⊥
IsEarly ReadFault = ⊥
IsEarly WriteFault = ⊥
IsEarly ReportFault = ⊥

pub stop_is_early : (stop : LoadStop) → IsEarly (outcome_of_stop stop)
stop_is_early (LoadStopOf.SpecRefused file fault) = tt
stop_is_early (LoadStopOf.CategoryTwice file category) = tt
stop_is_early (LoadStopOf.LoadFault file) = tt
stop_is_early LoadStopOf.OutOfMemory = tt

pub job_stop_is_early : (stop : JobStop) → IsEarly (outcome_of_job_stop stop)
job_stop_is_early (JobStopOf.Refused (RefusalOf.OtherCategory old new)) = tt
job_stop_is_early (JobStopOf.Refused (RefusalOf.ExpansionUnused category)) = tt
job_stop_is_early (JobStopOf.Refused (RefusalOf.FilterRefused fault)) = tt
job_stop_is_early JobStopOf.OutOfMemory = tt

pub no_usage_of_blocks : (end : StreamEnd) → outcome_of_end end ≡ Usage → ⊥
no_usage_of_blocks (EndOf.Done blocks) e = absurd (cc)
no_usage_of_blocks (EndOf.Refused fault) e = absurd (cc)
no_usage_of_blocks EndOf.InputTooLong e = absurd (cc)
no_usage_of_blocks (EndOf.TooLong block octets) e = absurd (cc)
no_usage_of_blocks EndOf.ReadFault e = absurd (cc)
no_usage_of_blocks EndOf.WriteFault e = absurd (cc)
no_usage_of_blocks EndOf.ReportFault e = absurd (cc)
no_usage_of_blocks EndOf.OutOfMemory e = absurd (cc)

pub no_usage_of_lines : (end : LinesEnd TextFault) → outcome_of_lines end ≡ Usage → ⊥
no_usage_of_lines (LinesEndOf.Done blocks) e = absurd (cc)
no_usage_of_lines (LinesEndOf.Refused line fault) e = absurd (cc)
no_usage_of_lines (LinesEndOf.LineTooLong line) e = absurd (cc)
no_usage_of_lines LinesEndOf.InputTooLong e = absurd (cc)
no_usage_of_lines LinesEndOf.ReadFault e = absurd (cc)
no_usage_of_lines LinesEndOf.WriteFault e = absurd (cc)
no_usage_of_lines LinesEndOf.OutOfMemory e = absurd (cc)

pub done_of_blocks : (end : StreamEnd) (count : ℕ) → outcome_of_end end ≡ Done count → end ≡ EndOf.Done count
done_of_blocks (EndOf.Done blocks) count e = cc
done_of_blocks (EndOf.Refused fault) count e = absurd (cc)
done_of_blocks EndOf.InputTooLong count e = absurd (cc)
done_of_blocks (EndOf.TooLong block octets) count e = absurd (cc)
done_of_blocks EndOf.ReadFault count e = absurd (cc)
done_of_blocks EndOf.WriteFault count e = absurd (cc)
done_of_blocks EndOf.ReportFault count e = absurd (cc)
done_of_blocks EndOf.OutOfMemory count e = absurd (cc)

pub done_of_lines : (end : LinesEnd TextFault) (count : ℕ) → outcome_of_lines end ≡ Done count → end ≡ LinesEndOf.Done count
done_of_lines (LinesEndOf.Done blocks) count e = cc
done_of_lines (LinesEndOf.Refused line fault) count e = absurd (cc)
done_of_lines (LinesEndOf.LineTooLong line) count e = absurd (cc)
done_of_lines LinesEndOf.InputTooLong count e = absurd (cc)
done_of_lines LinesEndOf.ReadFault count e = absurd (cc)
done_of_lines LinesEndOf.WriteFault count e = absurd (cc)
done_of_lines LinesEndOf.OutOfMemory count e = absurd (cc)

pub no_usage_of_salvage : (end : SalvageEnd) → outcome_of_salvage end ≡ Usage → ⊥
no_usage_of_salvage (SalvageEndOf.Done blocks) e = absurd (cc)
no_usage_of_salvage (SalvageEndOf.EndsInHeader block bit) e = absurd (cc)
no_usage_of_salvage (SalvageEndOf.BadLen block) e = absurd (cc)
no_usage_of_salvage (SalvageEndOf.EndsInBlock block bit) e = absurd (cc)
no_usage_of_salvage SalvageEndOf.InputTooLong e = absurd (cc)
no_usage_of_salvage SalvageEndOf.ReadFault e = absurd (cc)
no_usage_of_salvage SalvageEndOf.WriteFault e = absurd (cc)
no_usage_of_salvage SalvageEndOf.ReportFault e = absurd (cc)

pub done_of_salvage : (end : SalvageEnd) (count : ℕ) → outcome_of_salvage end ≡ Done count → end ≡ SalvageEndOf.Done count
done_of_salvage (SalvageEndOf.Done blocks) count e = cc
done_of_salvage (SalvageEndOf.EndsInHeader block bit) count e = absurd (cc)
done_of_salvage (SalvageEndOf.BadLen block) count e = absurd (cc)
done_of_salvage (SalvageEndOf.EndsInBlock block bit) count e = absurd (cc)
done_of_salvage SalvageEndOf.InputTooLong count e = absurd (cc)
done_of_salvage SalvageEndOf.ReadFault count e = absurd (cc)
done_of_salvage SalvageEndOf.WriteFault count e = absurd (cc)
done_of_salvage SalvageEndOf.ReportFault count e = absurd (cc)
