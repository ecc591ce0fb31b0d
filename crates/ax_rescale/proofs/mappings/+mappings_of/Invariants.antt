use Rattle.std.proofs.Common.{◌≡◌, ◌+◌, ◌++◌, map, drop}
use Rattle.ax_edition.specs.Index.{found}
use Rattle.ax_rescale.specs.Mappings.{mappings_of}
use Rattle.ax_rescale.specs.PlainMappings.{mapping_tree}
use Rattle.ax_format.specs.Plain.{slots_tree}
use Rattle.ax_rescale.proofs.mappings.+mappings_of.Given as goal

abbrev pub invariant-mappings_of_slots-loop-slot : goal.invariant-mappings_of_slots-loop-slot
invariant-mappings_of_slots-loop-slot l =
    (l.before ≡ l.slot-index) × (map mapping_tree l.made ++ mappings_of (l.before + 1) (slots_tree (drop l.slot-index l.new)) (found l.old) ≡ mappings_of 1 (slots_tree l.new) (found l.old))
