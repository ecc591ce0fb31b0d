-- Blocks under a catalogue.
use Rattle.std.specs.Prelude.{◌<◌, List}
use Rattle.ax_format.specs.Blocks.{BlockTree}
use Rattle.ax_format.specs.CanonicalOctets.{category_of}
use Rattle.ax_format.specs.Specification.{SpecTree}
use Rattle.ax_text_form.specs.Tokens.{IsOfCatalogue}

-- a block that fits the catalogue: of a specification where the catalogue has one for its category, else an opaque one
pub record IsBlockOf (catalogue : List SpecTree) (block : BlockTree) : Type 0 where
  pub fits : IsOfCatalogue catalogue block
  pub category : category_of block < 256
