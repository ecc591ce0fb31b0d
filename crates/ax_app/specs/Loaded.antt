-- What the files of a command are loaded into.
use Rattle.std.specs.Prelude.{◌<◌, List, [], ◌∷◌, length, Some}
use Rattle.std.specs.List.{AllByRecursion}
use Rattle.ax_app.specs.NamedFiles.{NamedFiles, no_file, one_file, catalogue, editions, with_expansion as of_expansion, Given, only}
use Rattle.ax_app.specs.Rows.{row_of}
use Rattle.ax_app.specs.declared.loading.Loaded.{Loaded}
use Rattle.ax_app.specs.declared.loading.Loaded.TheVariants.{Nothing, One, Catalogue, Editions, WithExpansion}
use Rattle.ax_app.specs.declared.loading.NamedFiles as OfCode
use Rattle.ax_app.specs.declared.loading.NamedFiles.TheVariants as NamedOf
use Rattle.ax_expand.specs.Expansion.{expansion_tree}
use Rattle.ax_expand.specs.declared.expansion.Expansion.{Expansion}
use Rattle.ax_format.specs.Plain.{spec_tree, catalogue_tree}
use Rattle.ax_format.specs.Specification.{SpecTree}
use Rattle.ax_format.specs.declared.spec.Spec.{Spec}
use Rattle.ax_grammar.specs.InRange.{AreNumbersInRange}
use Rattle.ax_words.specs.declared.line.Line.{Line}

-- the names that the code of a line gives
abbrev pub named : OfCode.NamedFiles → NamedFiles
named NamedOf.NoFile = no_file
named (NamedOf.OneFile name) = one_file name.now
named (NamedOf.Catalogue names) = catalogue names.now
named (NamedOf.Editions old new) = editions old.now new.now
named (NamedOf.WithExpansion name expansion) = of_expansion name.now expansion.now

-- fewer than a file's number can say
abbrev pub AreFew : NamedFiles → Type 0
AreFew (catalogue names) = length names < 4294967296
AreFew _ = Unit {0}

abbrev pub with_expansion : Spec → Expansion → Given
with_expansion spec x = record { specs = spec_tree spec ∷ []; expansion = Some (expansion_tree x) }

abbrev pub given_of : Loaded → Given
given_of Nothing = only []
given_of (One spec) = only (spec_tree spec ∷ [])
given_of (Catalogue specs) = only (catalogue_tree specs)
given_of (Editions old new) = only (spec_tree old ∷ spec_tree new ∷ [])
given_of (WithExpansion spec x) = with_expansion spec x

-- such files are loaded so
abbrev pub AreLoadedAs : NamedFiles → Loaded → Type 0
AreLoadedAs no_file Nothing = Unit {0}
AreLoadedAs (one_file name) (One spec) = Unit {0}
AreLoadedAs (catalogue names) (Catalogue specs) = Unit {0}
AreLoadedAs (editions old new) (Editions a b) = Unit {0}
AreLoadedAs (of_expansion name expansion) (WithExpansion spec x) = Unit {0}
AreLoadedAs _ _ = ⊥

-- the files of the line are
abbrev pub IsLoadedFor : Line → Loaded → Type 0
IsLoadedFor line loaded = AreLoadedAs (row_of line).files loaded

-- the numbers of each specification are in the range of the grammar
abbrev pub AreInRange : List SpecTree → Type 0
AreInRange specs = AllByRecursion AreNumbersInRange specs
