-- What a converter of the code makes of records, and what they miss under it.
use Rattle.std.specs.Prelude.{ℕ, List}
use Rattle.ax_format.specs.Plain.{entries_tree, spec_tree}
use Rattle.ax_format.specs.Tree.{EntriesTree}
use Rattle.ax_rescale.specs.ConvertedRecord.{converted_record}
use Rattle.ax_rescale.specs.Watching.{AreWatched, found_misses, record_misses}
use Rattle.ax_rescale.specs.declared.converter.Converter.{Converter}
use Rattle.ax_rescale.specs.declared.miss.Miss.{Miss}
use Rattle.ax_rescale.specs.declared.missing.ConvertedRecord.{ConvertedRecord}

abbrev pub converted_under : Converter → EntriesTree → EntriesTree
converted_under c r = converted_record (spec_tree c.old.now) (spec_tree c.new.now) r

-- its watches are those of its relation's keys
abbrev pub IsWatching : Converter → Type 0
IsWatching c = AreWatched (spec_tree c.old.now) (spec_tree c.new.now) c.watches c.relation.now.paths

-- what the record of that number misses of its entries, where the second ones are made of them
abbrev pub misses_under : Converter → ℕ → EntriesTree → EntriesTree → List Miss
misses_under c n es made = record_misses (spec_tree c.old.now) (spec_tree c.new.now) n es made c.relation.now.paths

-- what a record that was converted misses
abbrev pub misses_of : Converter → ConvertedRecord → List Miss
misses_of c one = misses_under c one.number (entries_tree one.entries.now) (entries_tree one.made.now)

-- what the conversion of the record of that number misses
abbrev pub conversion_misses : Converter → ℕ → EntriesTree → List Miss
conversion_misses c n es = misses_under c n es (converted_under c es)

-- what records miss, which are numbered from 0
abbrev pub all_misses_under : Converter → List EntriesTree → List Miss
all_misses_under c records = found_misses (spec_tree c.old.now) (spec_tree c.new.now) c.relation.now.paths 0 records
