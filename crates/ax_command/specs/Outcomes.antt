-- The outcome for the end of each stage.
use Rattle.ax_command.specs.declared.outcome.Outcome.{Outcome}
use Rattle.ax_command.specs.declared.outcome.JobStop.{JobStop}
use Rattle.ax_command.specs.declared.outcome.JobStop.TheVariants as JobStopOf
use Rattle.ax_command.specs.declared.outcome.Outcome.TheVariants as OutcomeOf
use Rattle.ax_command.specs.declared.outcome.Refusal.{Refusal}
use Rattle.ax_command.specs.declared.outcome.Refusal.TheVariants as RefusalOf
use Rattle.ax_lines.specs.declared.text_fault.TextFault.{TextFault}
use Rattle.ax_lines.specs.declared.text_fault.TextFault.TheVariants as TextFaultOf
use Rattle.ax_lines.specs.declared.end.LinesEnd.{LinesEnd}
use Rattle.ax_lines.specs.declared.end.LinesEnd.TheVariants as LinesEndOf
use Rattle.ax_load.specs.declared.fault.LoadStop.{LoadStop}
use Rattle.ax_load.specs.declared.fault.LoadStop.TheVariants as LoadStopOf
use Rattle.ax_blocks.specs.declared.end.StreamEnd.{StreamEnd}
use Rattle.ax_blocks.specs.declared.end.StreamEnd.TheVariants as EndOf

abbrev pub outcome_of_stop : LoadStop → Outcome
outcome_of_stop (LoadStopOf.SpecRefused file fault) = OutcomeOf.SpecRefused file fault
outcome_of_stop (LoadStopOf.CategoryTwice file category) = OutcomeOf.CategoryTwice file category
outcome_of_stop (LoadStopOf.LoadFault file) = OutcomeOf.LoadFault file
outcome_of_stop LoadStopOf.OutOfMemory = OutcomeOf.OutOfMemory

abbrev pub outcome_of_end : StreamEnd → Outcome
outcome_of_end (EndOf.Done blocks) = OutcomeOf.Done blocks
outcome_of_end (EndOf.Refused fault) = OutcomeOf.InputRefused fault
outcome_of_end EndOf.InputTooLong = OutcomeOf.InputTooLong
outcome_of_end (EndOf.TooLong block octets) = OutcomeOf.MigratedTooLong block octets
outcome_of_end EndOf.ReadFault = OutcomeOf.ReadFault
outcome_of_end EndOf.WriteFault = OutcomeOf.WriteFault
outcome_of_end EndOf.ReportFault = OutcomeOf.ReportFault
outcome_of_end EndOf.OutOfMemory = OutcomeOf.OutOfMemory

-- a line that is too long is refused as any other
abbrev pub outcome_of_lines : LinesEnd TextFault → Outcome
outcome_of_lines (LinesEndOf.Done blocks) = OutcomeOf.Done blocks
outcome_of_lines (LinesEndOf.Refused line fault) = OutcomeOf.TextRefused line fault
outcome_of_lines (LinesEndOf.LineTooLong line) = OutcomeOf.TextRefused line TextFaultOf.LineTooLong
outcome_of_lines LinesEndOf.InputTooLong = OutcomeOf.InputTooLong
outcome_of_lines LinesEndOf.ReadFault = OutcomeOf.ReadFault
outcome_of_lines LinesEndOf.WriteFault = OutcomeOf.WriteFault
outcome_of_lines LinesEndOf.OutOfMemory = OutcomeOf.OutOfMemory

abbrev pub outcome_of_refusal : Refusal → Outcome
outcome_of_refusal (RefusalOf.OtherCategory old new) = OutcomeOf.OtherCategory old new
outcome_of_refusal (RefusalOf.ExpansionUnused category) = OutcomeOf.ExpansionUnused category
outcome_of_refusal (RefusalOf.FilterRefused fault) = OutcomeOf.FilterRefused fault

abbrev pub outcome_of_job_stop : JobStop → Outcome
outcome_of_job_stop (JobStopOf.Refused refusal) = outcome_of_refusal refusal
outcome_of_job_stop JobStopOf.OutOfMemory = OutcomeOf.OutOfMemory
