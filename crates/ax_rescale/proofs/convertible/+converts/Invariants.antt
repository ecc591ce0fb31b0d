use Rattle.std.proofs.Common.{◌≡◌, drop}
use Rattle.ax_rescale.specs.Converts.{some_converts}
use Rattle.ax_rescale.specs.PlainMappings.{mappings_tree}
use Rattle.ax_rescale.proofs.convertible.+converts.Given as goal

abbrev pub invariant-some_converts-loop-one : goal.invariant-some_converts-loop-one
invariant-some_converts-loop-one l = some_converts (mappings_tree (drop l.one-index l.mappings)) ≡ some_converts (mappings_tree l.mappings)
