-- The worked examples compute.
use Rattle.std.proofs.Common.{[], refl, arith}
use Rattle.ax_format.specs.declared.content.Sign.TheVariants.{Unsigned, Signed}
use Rattle.ax_rescale.specs.Rescaled.{IsConverted}

pub below_zero : IsConverted 16 (record { sign = Signed; num = 1; den = 4; unit = [] }) 65535 32 (record { sign = Signed; num = 1; den = 8; unit = [] }) 4294967294
below_zero = record { fits = omega arith; same = refl }

pub finer : IsConverted 16 (record { sign = Unsigned; num = 1; den = 128; unit = [] }) 256 24 (record { sign = Unsigned; num = 1; den = 256; unit = [] }) 512
finer = record { fits = omega arith; same = refl }

pub ruleset worked = (below_zero, finer)
