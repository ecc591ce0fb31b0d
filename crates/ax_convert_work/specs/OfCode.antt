-- The command and the blocks of an edition pair, as the code holds it.
use Rattle.std.specs.Prelude.{List}
use Rattle.ax_blocks.specs.Commands.{BlockCommand}
use Rattle.ax_convert_work.specs.ConvertCommand.{convert_command}
use Rattle.ax_convert_work.specs.Making.{IsMade}
use Rattle.ax_convert_work.specs.declared.blocks.DataBlock.{DataBlock}
use Rattle.ax_format.specs.Framing.{RawTree}
use Rattle.ax_format.specs.Plain.{spec_tree}
use Rattle.ax_migrate_views.specs.Blocks.{new_tree, old_tree}
use Rattle.ax_migrate_views.specs.declared.migrator.Migrator.{Migrator}
use Rattle.ax_rescale.specs.declared.converter.Converter.{Converter}
use Rattle.ax_rescale.specs.declared.miss.Miss.{Miss}

abbrev pub command_between : Migrator → BlockCommand
command_between migrator = convert_command (old_tree migrator) (new_tree migrator)

abbrev pub IsMadeBy : Converter → RawTree → List Miss → List DataBlock → Type 0
IsMadeBy converter raw misses blocks = IsMade (spec_tree converter.old.now) (spec_tree converter.new.now) raw misses blocks
