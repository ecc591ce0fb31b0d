-- What `text` does with each block.
use Rattle.std.specs.Prelude.{List}
use Rattle.ax_format.specs.Specification.{SpecTree}
use Rattle.ax_blocks.specs.Commands.{BlockCommand}
use Rattle.ax_blocks.specs.Made.{tree_command}
use Rattle.ax_text_form.specs.BlockText.{BlockLine, OpaqueLine}

-- `text`: the line of each block
abbrev pub text_command : List SpecTree → BlockCommand
text_command catalogue = tree_command (λ number spec block. BlockLine spec block) (λ number category content. OpaqueLine category content) catalogue
