-- Commands that make octets of each block as it was read.
use Rattle.std.specs.Prelude.{◌≡◌, ℕ, ◌≤◌, List, [], Option, Some, None}
use Rattle.ax_bits.specs.Bits.{bits}
use Rattle.ax_format.specs.Blocks.{BlockTree, read_block, opaque_block}
use Rattle.ax_format.specs.Bodies.{SpellsBody, FailsBody}
use Rattle.ax_format.specs.Ends.{RawSpells, RawFails}
use Rattle.ax_format.specs.Framing.{RawTree}
use Rattle.ax_format.specs.Specification.{SpecTree, spec_of}
use Rattle.ax_format.specs.Tree.{EntriesTree}
use Rattle.ax_blocks.specs.Commands.{BlockCommand, gives}
use Rattle.ax_blocks.specs.declared.making.BlockStop.{BlockStop}
use Rattle.ax_blocks.specs.declared.making.BlockStop.TheVariants.{Fault, OutOfMemory}

-- of a block under a specification, where there is one
abbrev pub over : (SpecTree → BlockTree → List ℕ) → Option SpecTree → BlockTree → List ℕ
over of_read None block = []
over of_read (Some spec) block = of_read spec block

abbrev pub made : (ℕ → SpecTree → BlockTree → List ℕ) → (ℕ → ℕ → List ℕ → List ℕ) → List SpecTree → ℕ → BlockTree → List ℕ
made of_read of_opaque catalogue number (read_block category records) = over (of_read number) (spec_of category catalogue) (read_block category records)
made of_read of_opaque catalogue number (opaque_block category content) = of_opaque number category content

abbrev pub tree_command : (ℕ → SpecTree → BlockTree → List ℕ) → (ℕ → ℕ → List ℕ → List ℕ) → List SpecTree → BlockCommand
tree_command of_read of_opaque catalogue = record { catalogue = catalogue; answer = λ number block. gives [] (made of_read of_opaque catalogue number block) }

-- the block spells one of the catalogue's, and this is made of it
pub record IsMadeOf (of_read : ℕ → SpecTree → BlockTree → List ℕ) (of_opaque : ℕ → ℕ → List ℕ → List ℕ) (catalogue : List SpecTree) (number : ℕ) (raw : RawTree) (octets : List ℕ) : Type 0 where
  pub block : BlockTree
  pub spells : RawSpells catalogue raw block
  pub is : octets ≡ made of_read of_opaque catalogue number block

-- the body spells records, and this is made of them
pub record IsMadeRead (of_read : SpecTree → BlockTree → List ℕ) (spec : SpecTree) (raw : RawTree) (octets : List ℕ) : Type 0 where
  pub records : List EntriesTree
  pub spelled : SpellsBody spec records (bits raw.body)
  pub is : octets ≡ of_read spec (read_block raw.category records)

-- ---- nothing is made of a block

abbrev pub NothingMade : List SpecTree → RawTree → BlockStop → Type 0
NothingMade catalogue raw (Fault f) = RawFails catalogue raw f.bit f.cause
NothingMade catalogue raw OutOfMemory = Unit {0}

abbrev pub NothingMadeRead : SpecTree → RawTree → BlockStop → Type 0
NothingMadeRead spec raw (Fault f) = FailsBody spec (bits raw.body) f.bit f.cause
NothingMadeRead spec raw OutOfMemory = Unit {0}

-- a fault stands within the longest body
abbrev pub IsWithinBody : BlockStop → Type 0
IsWithinBody (Fault f) = f.bit ≤ 524256
IsWithinBody OutOfMemory = Unit {0}
