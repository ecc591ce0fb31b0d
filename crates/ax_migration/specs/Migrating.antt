-- The migrated block, as a function of the block, and over the code's types.
use Rattle.std.specs.Prelude.{List, map}
use Rattle.ax_relation.specs.PlainMoves.{moves_tree}
use Rattle.ax_relation.specs.declared.moves.Move.{Move}
use Rattle.ax_relation.specs.Moved.{moved_record}
use Rattle.ax_migration.specs.Losing.{block_losses}
use Rattle.ax_migration.specs.Moving.{entries_by}
use Rattle.ax_migration.specs.declared.losses.LossEntry.{LossEntry}
use Rattle.ax_format.specs.Blocks.{BlockTree, read_block, opaque_block}
use Rattle.ax_format.specs.Migrated.{MigratedBlock}
use Rattle.ax_format.specs.Plain.{spec_tree, block_tree}
use Rattle.ax_format.specs.Specification.{SpecTree}
use Rattle.ax_format.specs.Tree.{EntriesTree}
use Rattle.ax_format.specs.declared.record.Block.{Block}
use Rattle.ax_format.specs.declared.spec.Spec.{Spec}

-- the one block that is the migrated one (a law of this crate)
abbrev pub migrated_block : SpecTree → SpecTree → BlockTree → BlockTree
migrated_block old new (read_block category records) = read_block category (map (moved_record old new) records)
migrated_block old new (opaque_block category content) = opaque_block category content

abbrev pub records_by : List Move → List EntriesTree → List EntriesTree
records_by moves rs = map (entries_by (moves_tree moves)) rs

abbrev pub BlockMigrated : Spec → Spec → Block → Block → Type 0
BlockMigrated old new block made = MigratedBlock (spec_tree old) (spec_tree new) (block_tree block) (block_tree made)

abbrev pub losses_of : Spec → Spec → Block → List LossEntry
losses_of old new block = block_losses (spec_tree old) (spec_tree new) (block_tree block)
