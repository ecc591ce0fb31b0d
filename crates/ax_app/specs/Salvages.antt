-- The outcome for the end of `salvage`: where framing ends is a fault of the input, a LEN below 4 at its block's bit 8.
use Rattle.std.specs.Prelude.{ℕ}
use Rattle.ax_command.specs.declared.outcome.Outcome.{Outcome}
use Rattle.ax_command.specs.declared.outcome.Outcome.TheVariants as OutcomeOf
use Rattle.ax_salvage.specs.declared.salvaging.SalvageEnd.{SalvageEnd}
use Rattle.ax_salvage.specs.declared.salvaging.SalvageEnd.TheVariants.{Done, EndsInHeader, BadLen, EndsInBlock, InputTooLong, ReadFault, WriteFault, ReportFault}
use Rattle.ax_blocks.specs.declared.end.Cause.{Cause}
use Rattle.ax_blocks.specs.declared.end.Cause.TheVariants as CauseOf

abbrev pub refused_at : Cause → ℕ → ℕ → Outcome
refused_at cause block bit = OutcomeOf.InputRefused (record { cause = cause; block = block; bit = bit })

abbrev pub outcome_of_salvage : SalvageEnd → Outcome
outcome_of_salvage (Done blocks) = OutcomeOf.Done blocks
outcome_of_salvage (EndsInHeader block bit) = refused_at CauseOf.EndsInHeader block bit
outcome_of_salvage (BadLen block) = refused_at CauseOf.BadLen block 8
outcome_of_salvage (EndsInBlock block bit) = refused_at CauseOf.EndsInBlock block bit
outcome_of_salvage InputTooLong = OutcomeOf.InputTooLong
outcome_of_salvage ReadFault = OutcomeOf.ReadFault
outcome_of_salvage WriteFault = OutcomeOf.WriteFault
outcome_of_salvage ReportFault = OutcomeOf.ReportFault
