-- Why an expansion isn't accepted.
use Rattle.std.specs.Prelude.{◌≡◌, ◌<◌, length}
use Rattle.ax_check.specs.declared.accepted.CheckError.{CheckError}
use Rattle.ax_check.specs.declared.accepted.CheckError.TheVariants.{Flawed, OutOfMemory}
use Rattle.ax_expand.specs.Expansion.{all_flaws}
use Rattle.ax_expand.specs.declared.expansion.Expansion.{Expansion}

-- it has flaws, and these are they; want of memory says nothing
abbrev pub WhyFlawed : Expansion → CheckError → Type 0
WhyFlawed x (Flawed flaws) = (flaws ≡ all_flaws x) × (0 < length flaws)
WhyFlawed x OutOfMemory = Unit {0}
