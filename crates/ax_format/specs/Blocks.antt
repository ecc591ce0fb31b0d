-- Data blocks and streams of them. Octets and categories are taken to be numbers below 256.
use Rattle.std.specs.Prelude.{◌≡◌, ℕ, ◌+◌, ◌*◌, ◌<◌, List, [], ◌∷◌, ◌++◌, length, Some, None}
use Rattle.std.specs.List.{AllByRecursion}
use Rattle.ax_bits.specs.Bits.{bits}
use Rattle.ax_format.specs.Bodies.{SpellsBody, RecordShape}
use Rattle.ax_format.specs.Specification.{SpecTree, spec_of}
use Rattle.ax_format.specs.Tree.{EntriesTree}

-- a block of records, or one whose category has no specification
pub data BlockTree : Type 0 where
  read_block : ℕ → List EntriesTree → BlockTree
  opaque_block : ℕ → List ℕ → BlockTree

-- the octets are CAT, LEN and the body; LEN is the count of all of them
pub record IsFramed (category : ℕ) (body octets : List ℕ) : Type 0 where
  pub high : ℕ
  pub low : ℕ
  pub layout : octets ≡ category ∷ high ∷ low ∷ body
  pub counted : 256 * high + low ≡ length octets
  pub high_octet : high < 256
  pub low_octet : low < 256

-- the catalogue has the category, and the body spells the records
pub record SpellsRead (catalogue : List SpecTree) (category : ℕ) (records : List EntriesTree) (octets : List ℕ) : Type 0 where
  pub spec : SpecTree
  pub known : spec_of category catalogue ≡ Some spec
  pub body : List ℕ
  pub framed : IsFramed category body octets
  pub spelled : SpellsBody spec records (bits body)

-- the catalogue lacks the category, and the body is the content, at least one octet
pub record SpellsOpaque (catalogue : List SpecTree) (category : ℕ) (content octets : List ℕ) : Type 0 where
  pub unknown : spec_of category catalogue ≡ None
  pub framed : IsFramed category content octets
  pub some : 0 < length content

abbrev pub SpellsBlock : List SpecTree → BlockTree → List ℕ → Type 0
SpellsBlock catalogue (read_block category records) octets = SpellsRead catalogue category records octets
SpellsBlock catalogue (opaque_block category content) octets = SpellsOpaque catalogue category content octets

-- the spellings of the blocks, joined in order
abbrev pub SpellsStream : List SpecTree → List BlockTree → List ℕ → Type 0
SpellsStream catalogue [] octets = octets ≡ []
SpellsStream catalogue (block ∷ blocks) octets =
    (front : List ℕ) × (rest : List ℕ) × (octets ≡ front ++ rest) × SpellsBlock catalogue block front × SpellsStream catalogue blocks rest

-- a block of the specification's category, of one or more records of its shape; or an opaque block of another category
abbrev pub Fits : SpecTree → BlockTree → Type 0
Fits spec (read_block category records) = (category ≡ spec.category) × (0 < length records) × AllByRecursion (RecordShape spec) records
Fits spec (opaque_block category content) = (category ≡ spec.category → ⊥) × (0 < length content)
