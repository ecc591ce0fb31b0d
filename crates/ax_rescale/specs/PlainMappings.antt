-- The plain trees of mappings.
use Rattle.std.specs.Prelude.{◌≡◌, List, ◌++◌, map, option_map}
use Rattle.ax_format.specs.Plain.{kind_tree}
use Rattle.ax_rescale.specs.Conversion.{KindPair}
use Rattle.ax_rescale.specs.Mappings.{MappingTree, mapping_from, MappingsTree, mappings_from}
use Rattle.ax_rescale.specs.declared.mappings.AlikePair.{AlikePair}
use Rattle.ax_rescale.specs.declared.mappings.SlotMapping.{SlotMapping, fold-SlotMapping}
use Rattle.ax_rescale.specs.declared.mappings.SlotMapping.TheOpen.{SlotMapping-F}

abbrev pub pair_tree : AlikePair → KindPair
pair_tree pair = record { old = kind_tree pair.old.now; new = kind_tree pair.new.now }

abbrev pub mapping_step : SlotMapping-F MappingTree → MappingTree
mapping_step w = mapping_from w.old w.new (option_map pair_tree w.alike) w.parts (mappings_from w.below)

abbrev pub mapping_tree : SlotMapping → MappingTree
mapping_tree w = fold-SlotMapping MappingTree mapping_step w

abbrev pub mappings_tree : List SlotMapping → MappingsTree
mappings_tree ws = mappings_from (map mapping_tree ws)

-- the second ones are the first and, behind them, those of these trees
abbrev pub AddsMappings : List SlotMapping → List SlotMapping → List MappingTree → Type 0
AddsMappings ws added trees = map mapping_tree added ≡ map mapping_tree ws ++ trees
