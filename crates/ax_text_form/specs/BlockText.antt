-- The texts of records and blocks, and their lines.
use Rattle.std.specs.Prelude.{ℕ, List, [], ◌∷◌, ◌++◌, codes}
use Rattle.std.specs.List.{join_with_byte}
use Rattle.ax_tokens.specs.Octets.{line_feed}
use Rattle.ax_format.specs.Blocks.{BlockTree, read_block, opaque_block}
use Rattle.ax_format.specs.Paths.{three_digits}
use Rattle.ax_format.specs.Specification.{SpecTree, record_slots}
use Rattle.ax_format.specs.Tree.{EntriesTree}
use Rattle.ax_text_form.specs.ValueText.{Texts, in_braces, hex_text, entries_onto}

-- a record is its entries in ascending field reference number (FRN), each the item's name and its value
abbrev pub record_onto : SpecTree → EntriesTree → Texts → Texts
record_onto spec entries rest = codes "record" ∷ in_braces (entries_onto 1 (record_slots spec) entries) rest

abbrev pub records_onto : SpecTree → List EntriesTree → Texts → Texts
records_onto spec [] rest = rest
records_onto spec (r ∷ rs) rest = record_onto spec r (records_onto spec rs rest)

-- a block whose category has no specification
abbrev pub OpaqueText : ℕ → List ℕ → Texts
OpaqueText category content = codes "opaque" ∷ three_digits category ∷ hex_text content ∷ []

abbrev pub BlockText : SpecTree → BlockTree → Texts
BlockText spec (read_block category records) = codes "block" ∷ three_digits category ∷ in_braces (records_onto spec records) []
BlockText spec (opaque_block category content) = OpaqueText category content

-- ---- as octets

-- one space between two
abbrev pub spaced_texts : Texts → List ℕ
spaced_texts texts = join_with_byte 0x20 texts

abbrev pub RecordLine : SpecTree → EntriesTree → List ℕ
RecordLine spec entries = spaced_texts (record_onto spec entries [])

-- and a line feed at the end
abbrev pub OpaqueLine : ℕ → List ℕ → List ℕ
OpaqueLine category content = spaced_texts (OpaqueText category content) ++ line_feed ∷ []

abbrev pub BlockLine : SpecTree → BlockTree → List ℕ
BlockLine spec block = spaced_texts (BlockText spec block) ++ line_feed ∷ []
