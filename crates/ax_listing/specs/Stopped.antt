-- Where bits end, and why a fixed kind isn't shown.
use Rattle.std.specs.Prelude.{◌≡◌, ℕ, ◌+◌, ◌*◌, ◌<◌, ◌≤◌, List, length}
use Rattle.ax_format.specs.declared.fault.BodyCause.TheVariants.{RunsOut}
use Rattle.ax_listing.specs.declared.position.BitPosition.{BitPosition}
use Rattle.ax_listing.specs.declared.stop.FixedStop.{FixedStop}
use Rattle.ax_listing.specs.declared.stop.FixedStop.TheVariants as Stop
use Rattle.ax_values.specs.declared.error.DecodeError.{DecodeError}
use Rattle.ax_values.specs.declared.error.DecodeError.TheVariants as Decoding

-- the bit after the w bits from there on, within the body
abbrev pub IsBitAfter : BitPosition → ℕ → ℕ → Type 0
IsBitAfter from w end = (end ≡ from.at + w) × (end ≤ 8 * length from.body.now)

-- of the w bits from bit `at` on: they run out only where the body ends before they do
abbrev pub IsStoppedAt : List ℕ → ℕ → ℕ → FixedStop → Type 0
IsStoppedAt body at w Stop.RunsOut = 8 * length body < at + w
IsStoppedAt body at w Stop.OutOfMemory = Unit {0}

-- the same from a position on
abbrev pub IsStopped : BitPosition → ℕ → FixedStop → Type 0
IsStopped from w stop = IsStoppedAt from.body.now from.at w stop

-- of a unit from octet `at` on
abbrev pub IsUnitStop : FixedStop → ℕ → DecodeError → Type 0
IsUnitStop Stop.RunsOut at e = e ≡ Decoding.Fault (record { cause = RunsOut; bit = 8 * at })
IsUnitStop Stop.OutOfMemory at e = e ≡ Decoding.OutOfMemory
