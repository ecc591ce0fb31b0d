-- What the readers of lists and records give.
use Rattle.std.specs.Prelude.{ℕ, List, Result}
use Rattle.ax_format.specs.Bodies.{RecordShape}
use Rattle.ax_format.specs.Plain.{values_tree, entries_tree, record_tree, records_tree}
use Rattle.ax_format.specs.Shape.{FixedShape, Shape, EntriesShape}
use Rattle.ax_format.specs.Specification.{SpecTree, record_slots}
use Rattle.ax_format.specs.Tree.{FixedTree, KindTree}
use Rattle.ax_format.specs.declared.record.Record.{Record}
use Rattle.ax_format.specs.declared.value.Entry.{Entry}
use Rattle.ax_format.specs.declared.value.Value.{Value}
use Rattle.ax_text_form.specs.ValueText.{kind_onto, fixed_onto}
use Rattle.ax_tokens.specs.Stopping.{Texts}
use Rattle.ax_tokens.specs.declared.stopped.Stopped.{Stopped}
use Rattle.ax_block_reader.specs.Continuing.{Gives}
use Rattle.ax_block_reader.specs.Languages.{each_texts, entries_texts, FewerThan, SomeOf}
use Rattle.ax_block_reader.specs.Records.{braced_entries_texts, record_texts, SomeRecords, records_texts, braced_records_texts}

-- fewer than n occurrences of a kind, and the brace after them
abbrev pub GivesFewerThan : ℕ → KindTree → Result (List Value) Stopped → Texts → Texts → Type 0
GivesFewerThan n k result old new = Gives values_tree (FewerThan n (Shape k)) (each_texts (kind_onto k)) result old new

-- one or more occurrences of a fixed kind, and the brace after them
abbrev pub GivesSome : FixedTree → Result (List Value) Stopped → Texts → Texts → Type 0
GivesSome f result old new = Gives values_tree (SomeOf (FixedShape f)) (each_texts (fixed_onto f)) result old new

-- ---- of a specification

abbrev pub GivesEntries : SpecTree → Result (List Entry) Stopped → Texts → Texts → Type 0
GivesEntries spec result old new = Gives entries_tree (EntriesShape 1 (record_slots spec)) (entries_texts 1 (record_slots spec)) result old new

abbrev pub GivesBracedEntries : SpecTree → Result (List Entry) Stopped → Texts → Texts → Type 0
GivesBracedEntries spec result old new = Gives entries_tree (EntriesShape 1 (record_slots spec)) (braced_entries_texts spec) result old new

abbrev pub GivesRecord : SpecTree → Result Record Stopped → Texts → Texts → Type 0
GivesRecord spec result old new = Gives record_tree (RecordShape spec) (record_texts spec) result old new

abbrev pub GivesRecords : SpecTree → Result (List Record) Stopped → Texts → Texts → Type 0
GivesRecords spec result old new = Gives records_tree (SomeRecords spec) (records_texts spec) result old new

abbrev pub GivesBracedRecords : SpecTree → Result (List Record) Stopped → Texts → Texts → Type 0
GivesBracedRecords spec result old new = Gives records_tree (SomeRecords spec) (braced_records_texts spec) result old new
