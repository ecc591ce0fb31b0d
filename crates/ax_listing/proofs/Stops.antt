-- Why a fixed kind isn't shown, passed on.
use Rattle.std.proofs.Common.{◌≡◌, ℕ, ◌+◌, ◌*◌, ◌<◌, ◌≤◌, List, length, refl, subst, sym, arith}
use Rattle.ax_format.specs.Reader.{Read}
use Rattle.ax_format.specs.declared.fault.BodyCause.TheVariants.{RunsOut}
use Rattle.ax_format.specs.declared.fault.BodyFault.{BodyFault}
use Rattle.ax_fspec.specs.Reading.{FailsAt}
use Rattle.ax_listing.specs.Stopped.{IsStoppedAt, IsUnitStop}
use Rattle.ax_listing.specs.declared.stop.FixedStop.{FixedStop}
use Rattle.ax_listing.specs.declared.stop.FixedStop.TheVariants as Stop
use Rattle.ax_values.proofs.Continuing.{failed_by_fault, failed_by_want}
use Rattle.ax_values.specs.SlotReading.{HasFailed}
use Rattle.ax_values.specs.declared.error.DecodeError.{DecodeError}

pub stopped_by_want : (body : List ℕ) (at w : ℕ) (stop : FixedStop) → stop ≡ Stop.OutOfMemory → IsStoppedAt body at w stop
stopped_by_want body at w stop e = subst (IsStoppedAt body at w) (sym e) tt

pub ruleset stops = (stopped_by_want)

-- what a unit's stop makes of what was to be read
pub unit_stopped : {A : Type 0} (found : Read A) (body : List ℕ) (at here w : ℕ) (stop : FixedStop) (e : DecodeError) → IsStoppedAt body (8 * here) w stop → IsUnitStop stop here e
    → ((fault : BodyFault) → 8 * length body < 8 * here + w → fault.cause ≡ RunsOut → fault.bit ≡ 8 * here → FailsAt found at fault) → HasFailed found at e
unit_stopped found body at here w Stop.RunsOut e s u fails = failed_by_fault found at e (record { cause = RunsOut; bit = 8 * here }) u (fails (record { cause = RunsOut; bit = 8 * here }) s refl refl)
unit_stopped found body at here w Stop.OutOfMemory e s u fails = failed_by_want found at e u

-- of a unit that lies within the body
pub stopped_within : {A : Type 0} (found : Read A) (body : List ℕ) (at here bit w : ℕ) (stop : FixedStop) (e : DecodeError) → IsStoppedAt body bit w stop → bit + w ≤ 8 * length body → IsUnitStop stop here e → HasFailed found at e
stopped_within found body at here bit w Stop.RunsOut e s le u = absurd (omega (arith, s, le))
stopped_within found body at here bit w Stop.OutOfMemory e s le u = failed_by_want found at e u
