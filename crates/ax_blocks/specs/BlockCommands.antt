-- The block commands.
use Rattle.std.specs.Prelude.{List}
use Rattle.ax_format.specs.CanonicalOctets.{canon_block, framed}
use Rattle.ax_format.specs.Specification.{SpecTree}
use Rattle.ax_blocks.specs.Commands.{BlockCommand}
use Rattle.ax_blocks.specs.Made.{tree_command}

-- `canon`: the canonical form of each block, an opaque one as it is
abbrev pub canon_command : List SpecTree → BlockCommand
canon_command catalogue = tree_command (λ number spec block. canon_block spec block) (λ number category content. framed category content) catalogue
