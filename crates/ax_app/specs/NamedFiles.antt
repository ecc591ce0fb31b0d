-- The files of a command by their names, and what they give, or how the run ends at the first one that gives nothing.
use Rattle.std.specs.Prelude.{◌≡◌, ℕ, Bool, true, false, List, [], ◌∷◌, ◌++◌, length, Option, Some, None}
use Rattle.ax_expand.specs.Expansion.{ExpansionTree}
use Rattle.ax_load.specs.Languages.{expansion_files}
use Rattle.ax_load.specs.Loading.{FilesGive, FilesEnd, GivesIn, StopsAtFile, from_load, taken_by}
use Rattle.ax_load.specs.declared.fault.LoadStop.{LoadStop}
use Rattle.ax_format.specs.Specification.{SpecTree}
use Rattle.ax_endpoints.specs.Changes.{LibraryCounts}
use Rattle.ax_endpoints.specs.Files.{File}

pub data NamedFiles : Type 0 where
  no_file : NamedFiles
  one_file : List ℕ → NamedFiles
  -- of distinct categories
  catalogue : List (List ℕ) → NamedFiles
  -- the old one and the new one
  editions : List ℕ → List ℕ → NamedFiles
  -- a category file, and an expansion by which its RE is read
  with_expansion : List ℕ → List ℕ → NamedFiles

-- the names of the category files, in their order
abbrev pub spec_names : NamedFiles → List (List ℕ)
spec_names no_file = []
spec_names (one_file name) = name ∷ []
spec_names (catalogue names) = names
spec_names (editions old new) = old ∷ new ∷ []
spec_names (with_expansion name expansion) = name ∷ []

-- whether they are a catalogue, and so have to be of distinct categories; none and one are
abbrev pub are_distinct : NamedFiles → Bool
are_distinct no_file = true
are_distinct (one_file name) = true
are_distinct (catalogue names) = true
are_distinct (editions old new) = false
are_distinct (with_expansion name expansion) = false

-- the name of the expansion file, which comes after them
abbrev pub expansion_name : NamedFiles → Option (List ℕ)
expansion_name no_file = None
expansion_name (one_file name) = None
expansion_name (catalogue names) = None
expansion_name (editions old new) = None
expansion_name (with_expansion name expansion) = Some expansion

abbrev pub and_last : List (List ℕ) → Option (List ℕ) → List (List ℕ)
and_last names None = names
and_last names (Some last) = names ++ last ∷ []

-- the names of all of them
abbrev pub all_names : NamedFiles → List (List ℕ)
all_names named = and_last (spec_names named) (expansion_name named)

-- ---- what they give

-- specifications, and with an expansion file an expansion
pub record Given : Type 0 where
  pub specs : List SpecTree
  pub expansion : Option ExpansionTree

abbrev pub only : List SpecTree → Given
only specs = record { specs = specs; expansion = None }

abbrev pub GivesExpansion : Option (List ℕ) → Option (List File) → Option ExpansionTree → Type 0
GivesExpansion None files None = Unit {0}
GivesExpansion None files (Some x) = ⊥
GivesExpansion (Some name) files None = ⊥
GivesExpansion (Some name) files (Some x) = GivesIn expansion_files files name x

pub record NamedGive (named : NamedFiles) (files : Option (List File)) (given : Given) : Type 0 where
  pub specs : FilesGive (are_distinct named) files (spec_names named) given.specs
  pub expansion : GivesExpansion (expansion_name named) files given.expansion

-- ---- a file ends the run

-- a category file does; or these give specifications, and the expansion file does, whose number is how many there are before it: too
-- large by what its own load took
pub data NamedEnd (named : NamedFiles) (files : Option (List File)) (c : LibraryCounts) (stop : LoadStop) : Type 0 where
  in_specs : FilesEnd (are_distinct named) files c (spec_names named) stop → NamedEnd named files c stop
  in_expansion : (name : List ℕ) → expansion_name named ≡ Some name → (specs : List SpecTree) (give : FilesGive (are_distinct named) files (spec_names named) specs)
      → StopsAtFile expansion_files files (from_load c (taken_by files (spec_names named) specs give.each c.taken)) name (length (spec_names named)) stop → NamedEnd named files c stop
