-- The language of block texts under a catalogue, and what is asked of a line's tokens.
use Rattle.std.specs.Prelude.{◌≡◌, ℕ, ◌<◌, ◌≤◌, List, length}
use Rattle.ax_format.specs.Sizes.{longest_block}
use Rattle.ax_tokens.specs.FirstBad.{FirstBad}
use Rattle.ax_tokens.specs.Stopping.{Texts, texts_of}
use Rattle.ax_tokens.specs.PlainToken.{PlainToken}
use Rattle.ax_format.specs.Blocks.{BlockTree}
use Rattle.ax_format.specs.CanonicalOctets.{canon_over, category_of}
use Rattle.ax_format.specs.Lengths.{capped}
use Rattle.ax_format.specs.Specification.{SpecTree, spec_of}
use Rattle.ax_text_form.specs.CatalogueBlocks.{IsBlockOf}
use Rattle.ax_text_form.specs.Tokens.{TextOver}
use Rattle.ax_block_reader.specs.Continuing.{Spelled}
use Rattle.ax_block_reader.specs.declared.error.TextError.{TextError}
use Rattle.ax_block_reader.specs.declared.error.TextError.TheVariants.{BadToken, TooLong, OutOfMemory}

-- the text of a block of the catalogue
abbrev pub block_texts : List SpecTree → BlockTree → Texts
block_texts catalogue block = TextOver (spec_of (category_of block) catalogue) block

-- the texts of the blocks that fit the catalogue
abbrev pub IsBlockText : List SpecTree → Texts → Type 0
IsBlockText catalogue = Spelled (IsBlockOf catalogue) (block_texts catalogue)

-- how many octets the canonical form of a block has
abbrev pub canonical_length : List SpecTree → BlockTree → ℕ
canonical_length catalogue block = length (canon_over (spec_of (category_of block) catalogue) block)

-- ---- what the tokens say

-- the tokens are the text of the block
pub record Spells (catalogue : List SpecTree) (tokens : List PlainToken) (block : BlockTree) : Type 0 where
  pub of_catalogue : IsBlockOf catalogue block
  pub texts : texts_of tokens ≡ block_texts catalogue block

-- and the block's canonical form has no more octets than a block may have
pub record IsTextOf (catalogue : List SpecTree) (tokens : List PlainToken) (block : BlockTree) : Type 0 where
  pub spells : Spells catalogue tokens block
  pub within : canonical_length catalogue block ≤ longest_block

-- the tokens are the text of a block, and its canonical form has that many octets, too many
pub record IsLongText (catalogue : List SpecTree) (tokens : List PlainToken) (octets : ℕ) : Type 0 where
  pub block : BlockTree
  pub spells : Spells catalogue tokens block
  pub above : longest_block < canonical_length catalogue block
  pub number : octets ≡ capped (canonical_length catalogue block)

-- what an error says of the tokens; want of memory may come at any
abbrev pub IsFault : List SpecTree → List PlainToken → TextError → Type 0
IsFault catalogue tokens (BadToken token) = FirstBad (IsBlockText catalogue) (texts_of tokens) token
IsFault catalogue tokens (TooLong octets) = IsLongText catalogue tokens octets
IsFault catalogue tokens OutOfMemory = Unit {0}

-- the token that a reader of the whole text names
abbrev pub IsBad : List SpecTree → List PlainToken → TextError → Type 0
IsBad catalogue tokens (BadToken token) = FirstBad (IsBlockText catalogue) (texts_of tokens) token
IsBad catalogue tokens (TooLong octets) = ⊥
IsBad catalogue tokens OutOfMemory = Unit {0}
