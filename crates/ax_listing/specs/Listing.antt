-- The listing of a block that was read.
use Rattle.std.specs.Prelude.{◌≡◌, ℕ, List, [], ◌∷◌, ◌++◌, codes, decimal}
use Rattle.ax_bits.specs.Bits.{bits}
use Rattle.ax_blocks.specs.declared.numbered.NumberedBlock.{NumberedBlock}
use Rattle.ax_format.specs.Bodies.{SpellsBody}
use Rattle.ax_format.specs.Specification.{SpecTree}
use Rattle.ax_format.specs.Tree.{EntriesTree}
use Rattle.ax_text_form.specs.Printing.{as_lines}
use Rattle.ax_text_form.specs.ShowText.{block_front, records_lines}

-- a line with these numbers, and the lines of the records that the body spells
pub record ListsBody (spec : SpecTree) (number category octets count : ℕ) (body listing : List ℕ) : Type 0 where
  pub records : List EntriesTree
  pub spelled : SpellsBody spec records (bits body)
  pub is : listing ≡ as_lines ((block_front number category octets ++ codes " records " ++ decimal count) ∷ records_lines spec 0 records [])

-- of a block's body, under its number
abbrev pub ListsBlock : SpecTree → NumberedBlock → ℕ → ℕ → List ℕ → Type 0
ListsBlock spec block octets count listing = ListsBody spec block.number block.raw.now.category octets count block.raw.now.body.now listing
