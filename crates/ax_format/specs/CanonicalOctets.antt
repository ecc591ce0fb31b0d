-- The canonical octets of blocks (this project's own rule): CAT, the LEN of the result, and the canonical spellings of the
-- records, or the opaque octets.
use Rattle.std.specs.Prelude.{ℕ, ◌+◌, List, [], ◌∷◌, ◌++◌, length, flat_map, Option, Some, None}
use Rattle.ax_bits.specs.Bits.{word, number_of}
use Rattle.ax_format.specs.Blocks.{BlockTree, read_block, opaque_block}
use Rattle.ax_format.specs.Bodies.{CanonBody}
use Rattle.ax_format.specs.Specification.{SpecTree, spec_of}

-- the octets that bits make up, eight by eight
abbrev pub octets_of : List ℕ → List ℕ
octets_of (a ∷ b ∷ c ∷ d ∷ e ∷ f ∷ g ∷ h ∷ more) = number_of (a ∷ b ∷ c ∷ d ∷ e ∷ f ∷ g ∷ h ∷ []) ∷ octets_of more
octets_of _ = []

abbrev pub framed : ℕ → List ℕ → List ℕ
framed category body = category ∷ octets_of (word 16 (3 + length body)) ++ body

-- of one block, over the specification of its category
abbrev pub canon_block : SpecTree → BlockTree → List ℕ
canon_block spec (read_block category records) = framed category (octets_of (CanonBody spec records))
canon_block spec (opaque_block category content) = framed category content

abbrev pub canon_length : SpecTree → BlockTree → ℕ
canon_length spec block = length (canon_block spec block)

-- a block of a category without a specification has no records
abbrev pub canon_over : Option SpecTree → BlockTree → List ℕ
canon_over (Some spec) block = canon_block spec block
canon_over None (read_block category records) = framed category []
canon_over None (opaque_block category content) = framed category content

abbrev pub category_of : BlockTree → ℕ
category_of (read_block category records) = category
category_of (opaque_block category content) = category

abbrev pub CanonBytes : List SpecTree → List BlockTree → List ℕ
CanonBytes catalogue blocks = flat_map (λ block. canon_over (spec_of (category_of block) catalogue) block) blocks
