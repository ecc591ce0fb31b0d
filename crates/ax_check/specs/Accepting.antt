-- Why a specification isn't accepted.
use Rattle.std.specs.Prelude.{◌≡◌, ◌<◌, length}
use Rattle.ax_format.specs.OfCode.{spec_flaws}
use Rattle.ax_format.specs.declared.spec.Spec.{Spec}
use Rattle.ax_check.specs.declared.accepted.CheckError.{CheckError}
use Rattle.ax_check.specs.declared.accepted.CheckError.TheVariants.{Flawed, OutOfMemory}

-- it has flaws, and these are they; want of memory says nothing
abbrev pub WhyFlawed : Spec → CheckError → Type 0
WhyFlawed spec (Flawed flaws) = (flaws ≡ spec_flaws spec) × (0 < length flaws)
WhyFlawed spec OutOfMemory = Unit {0}
