use Rattle.std.proofs.Common.{◌≡◌, map, drop}
use Rattle.ax_format.specs.Fitting.{lists_fit}
use Rattle.ax_format.specs.Plain.{part_tree, lists_tree}
use Rattle.ax_format.proofs.fitting.fits_lists.Given as goal

abbrev pub invariant-loop-part : goal.invariant-loop-part
invariant-loop-part l = lists_fit (map part_tree l.parts) (lists_tree l.lists) ≡ lists_fit (map part_tree (drop l.part-index l.parts)) (lists_tree l.rest)
