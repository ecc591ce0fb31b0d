-- The texts of records, as languages.
use Rattle.std.specs.Prelude.{◌<◌, List, [], ◌∷◌, length}
use Rattle.std.specs.List.{AllByRecursion}
use Rattle.ax_tokens.specs.Stopping.{Texts}
use Rattle.ax_format.specs.Bodies.{RecordShape}
use Rattle.ax_format.specs.Specification.{SpecTree, record_slots}
use Rattle.ax_format.specs.Tree.{EntriesTree}
use Rattle.ax_text_form.specs.BlockText.{record_onto, records_onto}
use Rattle.ax_text_form.specs.ValueText.{opening, closing}
use Rattle.ax_block_reader.specs.Languages.{entries_texts}

abbrev pub braced_entries_texts : SpecTree → EntriesTree → Texts
braced_entries_texts spec es = opening ∷ entries_texts 1 (record_slots spec) es

abbrev pub record_texts : SpecTree → EntriesTree → Texts
record_texts spec es = record_onto spec es []

-- one or more records
abbrev pub SomeRecords : SpecTree → List EntriesTree → Type 0
SomeRecords spec rs = (0 < length rs) × AllByRecursion (RecordShape spec) rs

abbrev pub records_texts : SpecTree → List EntriesTree → Texts
records_texts spec rs = records_onto spec rs (closing ∷ [])

abbrev pub braced_records_texts : SpecTree → List EntriesTree → Texts
braced_records_texts spec rs = opening ∷ records_texts spec rs
