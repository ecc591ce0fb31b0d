-- What the laws of streams speak of: one end, and blocks that a catalogue can write.
use Rattle.std.specs.Prelude.{◌≡◌, ◌<◌, ◌≤◌, List, length, Option, Some, None}
use Rattle.ax_format.specs.Blocks.{BlockTree, read_block, opaque_block, Fits}
use Rattle.ax_format.specs.CanonicalOctets.{canon_over, category_of}
use Rattle.ax_format.specs.Sizes.{longest_block}
use Rattle.ax_format.specs.Specification.{SpecTree, spec_of}

-- there is one list of blocks and one end
pub record HasOneEnd {B E : Type 0} (R : List B → E → Type 0) : Type 0 where
  pub some : (blocks : List B) × (end : E) × R blocks end
  pub one : (blocks others : List B) (end other : E) → R blocks end → R others other → (blocks ≡ others) × (end ≡ other)

-- a block that fits the specification of its category, or an opaque one where there is none
abbrev pub FitsOver : Option SpecTree → BlockTree → Type 0
FitsOver (Some spec) block = Fits spec block
FitsOver None (read_block category records) = ⊥
FitsOver None (opaque_block category content) = 0 < length content

-- it fits the catalogue, and its canonical form is no longer than LEN can say
pub record IsWritable (catalogue : List SpecTree) (block : BlockTree) : Type 0 where
  pub fits : FitsOver (spec_of (category_of block) catalogue) block
  pub within : length (canon_over (spec_of (category_of block) catalogue) block) ≤ longest_block
