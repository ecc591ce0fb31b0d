-- What a converter holds, and what it makes of blocks.
use Rattle.std.specs.Prelude.{◌≡◌, List, length, map}
use Rattle.ax_format.specs.Plain.{spec_tree, block_tree}
use Rattle.ax_format.specs.Tree.{EntriesTree}
use Rattle.ax_format.specs.declared.record.Block.{Block}
use Rattle.ax_format.specs.declared.spec.Spec.{Spec}
use Rattle.ax_relation.specs.Relates.{Relates}
use Rattle.ax_rescale.specs.Conversion.{BlockConversion}
use Rattle.ax_rescale.specs.ConvertedRecord.{converted_record}
use Rattle.ax_rescale.specs.Mappings.{record_mappings}
use Rattle.ax_rescale.specs.Misses.{block_misses}
use Rattle.ax_rescale.specs.PlainMappings.{mapping_tree}
use Rattle.ax_rescale.specs.Watching.{AreWatched}
use Rattle.ax_rescale.specs.declared.converter.Converter.{Converter}
use Rattle.ax_rescale.specs.declared.miss.Miss.{Miss}

pub record IsConverter (c : Converter) : Type 0 where
  pub related : Relates c.old.now c.new.now c.relation.now
  pub mappings : map mapping_tree c.mappings ≡ record_mappings (spec_tree c.old.now) (spec_tree c.new.now)
  pub watched : AreWatched (spec_tree c.old.now) (spec_tree c.new.now) c.watches c.relation.now.paths
  pub all : length c.watches ≡ length c.relation.now.paths

abbrev pub BlockConverted : Spec → Spec → Block → Block → Type 0
BlockConverted old new block made = BlockConversion (spec_tree old) (spec_tree new) (block_tree block) (block_tree made)

abbrev pub misses_of : Spec → Spec → Block → List Miss
misses_of old new block = block_misses (spec_tree old) (spec_tree new) (block_tree block)

abbrev pub converted_records : Spec → Spec → List EntriesTree → List EntriesTree
converted_records old new rs = map (converted_record (spec_tree old) (spec_tree new)) rs
