use Rattle.std.proofs.Common.{◌≡◌, ◌+◌, ◌++◌, map, drop}
use Rattle.ax_edition.specs.Index.{found}
use Rattle.ax_rescale.specs.Mappings.{mappings_of}
use Rattle.ax_rescale.specs.PlainMappings.{mapping_tree}
use Rattle.ax_edition.specs.SlotItems.{items_tree}
use Rattle.ax_rescale.proofs.mappings.mappings_of_items.Given as goal

abbrev pub invariant-loop-item : goal.invariant-loop-item
invariant-loop-item l =
    (l.before ≡ l.item-index) × (map mapping_tree l.made ++ mappings_of (l.before + 1) (items_tree (drop l.item-index l.new)) (found l.old) ≡ mappings_of 1 (items_tree l.new) (found l.old))
