use Rattle.std.proofs.Common.{◌≡◌, ◌++◌, map, drop}
use Rattle.ax_rescale.specs.Converts.{converting_of}
use Rattle.ax_rescale.specs.PlainMappings.{mapping_tree}
use Rattle.ax_rescale.proofs.convertible.slots_of.Given as goal

abbrev pub invariant-loop-one : goal.invariant-loop-one
invariant-loop-one l = l.slots.items ++ converting_of (map mapping_tree (drop l.one-index l.mappings)) ≡ converting_of (map mapping_tree l.mappings)
