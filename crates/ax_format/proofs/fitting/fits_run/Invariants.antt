use Rattle.std.proofs.Common.{◌≡◌, drop}
use Rattle.ax_format.specs.Fitting.{each_fits, fixed_fits}
use Rattle.ax_format.specs.Plain.{fixed_tree, values_tree}
use Rattle.ax_format.proofs.fitting.fits_run.Given as goal

abbrev pub invariant-loop-value : goal.invariant-loop-value
invariant-loop-value l = each_fits (fixed_fits (fixed_tree l.fixed)) (values_tree l.values) ≡ each_fits (fixed_fits (fixed_tree l.fixed)) (values_tree (drop l.value-index l.values))
