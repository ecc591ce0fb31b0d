-- What `show` does with each block.
use Rattle.std.specs.Prelude.{ℕ, List}
use Rattle.ax_format.specs.Framing.{RawTree}
use Rattle.ax_format.specs.Specification.{SpecTree}
use Rattle.ax_blocks.specs.Commands.{BlockCommand}
use Rattle.ax_blocks.specs.Made.{IsMadeOf, IsMadeRead, tree_command}
use Rattle.ax_blocks.specs.Reader.{raw_tree}
use Rattle.ax_blocks.specs.declared.numbered.NumberedBlock.{NumberedBlock}
use Rattle.ax_text_form.specs.ShowText.{ShowText, OpaqueShown}

-- `show`: the listing of each block, by its number in the input
abbrev pub show_command : List SpecTree → BlockCommand
show_command catalogue = tree_command (λ number spec block. ShowText spec block number) (λ number category content. OpaqueShown number category content) catalogue

-- the listing is the one that it makes of this block
abbrev pub IsListed : List SpecTree → ℕ → RawTree → List ℕ → Type 0
IsListed catalogue number raw listing = IsMadeOf (λ number spec block. ShowText spec block number) (λ number category content. OpaqueShown number category content) catalogue number raw listing

-- it is the one that it makes of this block, read under that specification
abbrev pub IsReadListed : SpecTree → NumberedBlock → List ℕ → Type 0
IsReadListed spec block listing = IsMadeRead (λ spec read. ShowText spec read block.number) spec (raw_tree block.raw.now) listing
