-- What the files of a line give, or how the run ends at the first one that gives nothing.
use Rattle.std.specs.Prelude.{ℕ, Bool, List, Option}
use Rattle.ax_load.specs.declared.fault.LoadStop.{LoadStop}
use Rattle.ax_endpoints.specs.Changes.{LibraryCounts}
use Rattle.ax_endpoints.specs.Files.{File}
use Rattle.ax_words.specs.declared.line.Line.{Line}
pub use Rattle.ax_app.specs.NamedFiles.{Given, only, GivesExpansion, in_specs, in_expansion}
use Rattle.ax_app.specs.NamedFiles.{spec_names, are_distinct, expansion_name, all_names, NamedGive, NamedEnd}
use Rattle.ax_app.specs.Rows.{row_of}

-- the names of a line's category files, in their order
abbrev pub files_of : Line → List (List ℕ)
files_of what = spec_names (row_of what).files

-- whether they have to be of distinct categories
abbrev pub takes_distinct : Line → Bool
takes_distinct what = are_distinct (row_of what).files

-- the name of its expansion file, which comes after them
abbrev pub expansion_of : Line → Option (List ℕ)
expansion_of what = expansion_name (row_of what).files

-- the names of all of its files
abbrev pub all_files_of : Line → List (List ℕ)
all_files_of what = all_names (row_of what).files

-- its files give this
abbrev pub LineGives : Line → Option (List File) → Given → Type 0
LineGives what files given = NamedGive (row_of what).files files given

-- a file of it ends the run
abbrev pub LineEnds : Line → Option (List File) → LibraryCounts → LoadStop → Type 0
LineEnds what files c stop = NamedEnd (row_of what).files files c stop
