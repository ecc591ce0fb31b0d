-- The command `migrate`. Blocks are read under the old edition alone.
use Rattle.std.specs.Prelude.{ℕ, List, [], ◌∷◌, map, Option, Some, None}
use Rattle.ax_relation.specs.Moved.{moved_record}
use Rattle.ax_migration.specs.Losing.{block_losses, lost_lines}
use Rattle.ax_format.specs.Blocks.{BlockTree, read_block, opaque_block}
use Rattle.ax_format.specs.CanonicalOctets.{framed}
use Rattle.ax_format.specs.Specification.{SpecTree}
use Rattle.ax_format.specs.Split.{first_too_long, split_octets}
use Rattle.ax_blocks.specs.Commands.{BlockCommand, BlockAnswer, gives, too_long}

-- a record that is too long for a block of its own refuses the whole block
abbrev pub unless_too_long : Option ℕ → List ℕ → List ℕ → BlockAnswer
unless_too_long (Some count) lines octets = too_long count
unless_too_long None lines octets = gives lines octets

-- the lines of its losses, and the canonical forms of the blocks that its migrated records are split into; an opaque block as it is
abbrev pub migrate_answer : SpecTree → SpecTree → ℕ → BlockTree → BlockAnswer
migrate_answer old new number (read_block category records) =
    unless_too_long (first_too_long new (map (moved_record old new) records)) (lost_lines number (block_losses old new (read_block category records))) (split_octets new (map (moved_record old new) records))
migrate_answer old new number (opaque_block category content) = gives [] (framed category content)

abbrev pub migrate_command : SpecTree → SpecTree → BlockCommand
migrate_command old new = record { catalogue = old ∷ []; answer = migrate_answer old new }
