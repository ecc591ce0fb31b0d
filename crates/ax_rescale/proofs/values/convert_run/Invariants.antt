use Rattle.std.proofs.Common.{◌≡◌, length, drop}
use Rattle.ax_format.specs.Plain.{fixed_tree, values_tree}
use Rattle.ax_format.specs.Shape.{FixedShape}
use Rattle.ax_rescale.specs.Converted.{FixedConverted}
use Rattle.ax_rescale.proofs.EachSteps.{EachGo}
use Rattle.ax_rescale.proofs.values.convert_run.Given as goal

abbrev pub invariant-loop-value : goal.invariant-loop-value
invariant-loop-value l =
    (length l.made ≡ l.value-index)
    × EachGo (FixedShape (fixed_tree l.old)) (FixedConverted (fixed_tree l.old) (fixed_tree l.new)) (values_tree l.values) l.made (drop l.value-index l.value-items)
