use Rattle.std.proofs.Common.{◌≡◌, length}
use Rattle.ax_text_form.specs.FractionEnds.{fraction_ends}
use Rattle.ax_held_kinds.proofs.lines.LineMaker.fraction_ends.Given as goal

abbrev pub invariant-loop-twos : goal.invariant-loop-twos
invariant-loop-twos l = (length l.ends ≡ l.twos) × (l.ends ≡ fraction_ends l.scale.unit l.scale.den (length l.ends))
