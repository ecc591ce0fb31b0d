-- Want of memory: before the input of a command that takes none once it reads.
use Rattle.std.proofs.Common.{◌≡◌, ℕ, ◌⊎◌, inl, inr, List, sym, ◌∙◌}
use Rattle.ax_command.specs.Outcomes.{outcome_of_end}
use Rattle.ax_command.specs.declared.outcome.Outcome.{Outcome}
use Rattle.ax_command.specs.declared.outcome.Outcome.TheVariants.{OutOfMemory}
use Rattle.ax_app.specs.Ends.{as_stream}
use Rattle.ax_app.specs.Gateway.{WantsMemory}
use Rattle.ax_app.specs.declared.end.DriveEnd.{DriveEnd}
use Rattle.ax_app.specs.declared.end.DriveEnd.TheVariants as EndOf
use Rattle.ax_endpoints.specs.Changes.{Changes, IsUntouched, GainsNothing}
use Rattle.ax_salvage.specs.declared.salvaging.SalvageEnd.{SalvageEnd}
use Rattle.ax_salvage.specs.declared.salvaging.SalvageEnd.TheVariants as SalvageEndOf
use Rattle.ax_words.specs.Words.{HasShape}
use Rattle.ax_words.specs.declared.line.Line.{Line}
use Rattle.ax_app.specs.Running.{TakesMemory, WasIdle, WantsFirst, AsksForMemory}
use Rattle.ax_app.specs.Salvages.{outcome_of_salvage}

never_wants : (end : DriveEnd) → outcome_of_end (as_stream end) ≡ OutOfMemory → ⊥
never_wants (EndOf.Done blocks) e = absurd (cc)
never_wants (EndOf.InputRefused fault) e = absurd (cc)
never_wants (EndOf.MigratedTooLong block octets) e = absurd (cc)
never_wants EndOf.InputTooLong e = absurd (cc)
never_wants EndOf.ReadFault e = absurd (cc)
never_wants EndOf.WriteFault e = absurd (cc)
never_wants EndOf.ReportFault e = absurd (cc)

-- of a work that takes no memory
pub was_idle : (x : Changes) (end : DriveEnd) (outcome : Outcome) → outcome ≡ outcome_of_end (as_stream end) → WasIdle x outcome
was_idle x end outcome is e = absurd (never_wants end (sym is ∙ e))

salvage_never_wants : (end : SalvageEnd) → outcome_of_salvage end ≡ OutOfMemory → ⊥
salvage_never_wants (SalvageEndOf.Done blocks) e = absurd (cc)
salvage_never_wants (SalvageEndOf.EndsInHeader block bit) e = absurd (cc)
salvage_never_wants (SalvageEndOf.BadLen block) e = absurd (cc)
salvage_never_wants (SalvageEndOf.EndsInBlock block bit) e = absurd (cc)
salvage_never_wants SalvageEndOf.InputTooLong e = absurd (cc)
salvage_never_wants SalvageEndOf.ReadFault e = absurd (cc)
salvage_never_wants SalvageEndOf.WriteFault e = absurd (cc)
salvage_never_wants SalvageEndOf.ReportFault e = absurd (cc)

pub salvage_was_idle : (x : Changes) (end : SalvageEnd) (outcome : Outcome) → outcome ≡ outcome_of_salvage end → WasIdle x outcome
salvage_was_idle x end outcome is e = absurd (salvage_never_wants end (sym is ∙ e))

pub asks : (words : List (List ℕ)) (line : Line) (x : Changes) (outcome : Outcome) → HasShape words line → WantsFirst line x outcome → WantsMemory words x outcome
asks words line x outcome shape h e = by (h e)
  where
    by : TakesMemory line ⊎ (IsUntouched x.source × GainsNothing x.out) → AsksForMemory words ⊎ (IsUntouched x.source × GainsNothing x.out)
    by (inl t) = inl (record { what = line; shape = shape; takes = t })
    by (inr p) = inr p
