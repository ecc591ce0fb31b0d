-- A block as a migrator takes it.
use Rattle.std.specs.Prelude.{Result}
use Rattle.ax_blocks.specs.BlockTaking.{Takes}
use Rattle.ax_blocks.specs.Reader.{raw_tree}
use Rattle.ax_blocks.specs.declared.numbered.NumberedBlock.{NumberedBlock}
use Rattle.ax_blocks.specs.declared.work.WorkStop.{WorkStop}
use Rattle.ax_endpoints.specs.Changes.{SinkChange}
use Rattle.ax_migrate_views.specs.Blocks.{command_of}
use Rattle.ax_migrate_views.specs.declared.migrator.Migrator.{Migrator}

-- the block is taken as `migrate` between the two editions says, with these changes of the output and of the report
abbrev pub TakesBlock : Migrator → NumberedBlock → SinkChange → SinkChange → Result Unit WorkStop → Type 0
TakesBlock m block out report result = Takes (command_of m) block.number (raw_tree block.raw.now) out report result
