-- The two forms of a block's text, and what stands after the first word of each.
use Rattle.std.specs.Prelude.{◌≡◌, ℕ, ◌<◌, List, [], ◌∷◌, drop, codes, Option, Some, None}
use Rattle.ax_tokens.specs.Stopping.{Texts}
use Rattle.ax_format.specs.Blocks.{BlockTree, read_block, opaque_block}
use Rattle.ax_format.specs.Paths.{three_digits}
use Rattle.ax_format.specs.Specification.{SpecTree, spec_of}
use Rattle.ax_format.specs.Tree.{EntriesTree}
use Rattle.ax_text_form.specs.ValueText.{hex_text}
use Rattle.ax_text_form.specs.CatalogueBlocks.{IsBlockOf}
use Rattle.ax_block_reader.specs.Records.{braced_records_texts}
use Rattle.ax_block_reader.specs.declared.blocks.BlockForm.{BlockForm}
use Rattle.ax_block_reader.specs.declared.blocks.BlockForm.TheVariants.{Read, Opaque}

-- a category of which the catalogue has a specification, and one of which it has none
abbrev pub HasCategory : List SpecTree → ℕ → Type 0
HasCategory catalogue n = (n < 256) × ((spec : SpecTree) × (spec_of n catalogue ≡ Some spec))

abbrev pub LacksCategory : List SpecTree → ℕ → Type 0
LacksCategory catalogue n = (n < 256) × (spec_of n catalogue ≡ None)

-- a category in three digits
abbrev pub IsCategoryText : List ℕ → Type 0
IsCategoryText text = (category : ℕ) × (category < 256) × (text ≡ three_digits category)

-- some category has a specification, and some has none
abbrev pub HasKnown : List SpecTree → Type 0
HasKnown catalogue = (category : ℕ) × (category < 256) × ((spec : SpecTree) × (spec_of category catalogue ≡ Some spec))

abbrev pub HasLacked : List SpecTree → Type 0
HasLacked catalogue = (category : ℕ) × (category < 256) × (spec_of category catalogue ≡ None)

-- ---- blocks of records

abbrev pub ReadShape : List SpecTree → BlockTree → Type 0
ReadShape catalogue (read_block category records) = IsBlockOf catalogue (read_block category records)
ReadShape catalogue (opaque_block category content) = ⊥

abbrev pub records_over : Option SpecTree → List EntriesTree → Texts
records_over None records = []
records_over (Some spec) records = braced_records_texts spec records

-- after `block`
abbrev pub after_block_word : List SpecTree → BlockTree → Texts
after_block_word catalogue (read_block category records) = three_digits category ∷ records_over (spec_of category catalogue) records
after_block_word catalogue (opaque_block category content) = []

-- ---- opaque blocks

abbrev pub OpaqueShape : List SpecTree → BlockTree → Type 0
OpaqueShape catalogue (read_block category records) = ⊥
OpaqueShape catalogue (opaque_block category content) = IsBlockOf catalogue (opaque_block category content)

-- after `opaque`
abbrev pub after_opaque_word : BlockTree → Texts
after_opaque_word (read_block category records) = []
after_opaque_word (opaque_block category content) = three_digits category ∷ hex_text content ∷ []

-- ---- the first word

-- `block` begins a block's text where the catalogue has a category, and `opaque` where it lacks one
abbrev pub IsForm : List SpecTree → BlockForm → Texts → Type 0
IsForm catalogue Read texts = (texts ≡ codes "block" ∷ drop 1 texts) × HasKnown catalogue
IsForm catalogue Opaque texts = (texts ≡ codes "opaque" ∷ drop 1 texts) × HasLacked catalogue
