-- Which specifications the files of a command line give, or how the run ends at the first one that gives none.
use Rattle.std.specs.Prelude.{◌≡◌, ℕ, ◌⊎◌, List, [], ◌∷◌, ◌++◌, Bool, false, IsTrue, Option, None, IsSome, length}
use Rattle.ax_endpoints.specs.Files.{File, HoldsFile, Lacks, TooMany}
use Rattle.ax_endpoints.specs.Changes.{LibraryCounts, library_counts}
use Rattle.ax_endpoints.specs.declared.libraries.Library as LibraryOf
use Rattle.ax_endpoints.specs.Told.{Rose, number_after}
use Rattle.ax_format.specs.Specification.{SpecTree, spec_of}
use Rattle.ax_load.specs.Counting.{TookThrough}
use Rattle.ax_load.specs.FileAnswers.{largest_file, IsAcceptedIn, IsRefusedIn}
use Rattle.ax_load.specs.Languages.{Language, category_files, expansion_files}
use Rattle.ax_load.specs.declared.fault.LoadStop.{LoadStop}
use Rattle.ax_load.specs.declared.fault.LoadStop.TheVariants.{SpecRefused, CategoryTwice, LoadFault, OutOfMemory}
use Rattle.ax_load.specs.declared.fault.SpecFault.{SpecFault}
use Rattle.ax_load.specs.declared.fault.SpecFault.TheVariants.{TooLarge, BadByte, TooDeep, BadToken, Flawed}

-- the file of this name is an accepted one, of this tree
pub record GivesIn {T : Type 0} (language : Language T) (files : Option (List File)) (name : List ℕ) (tree : T) : Type 0 where
  pub octets : List ℕ
  pub holds : HoldsFile files name octets
  pub accepted : IsAcceptedIn language octets tree

abbrev pub GivesSpec : Option (List File) → List ℕ → SpecTree → Type 0
GivesSpec files name spec = GivesIn category_files files name spec

-- one load gave the octets of such a file, and the number of octets taken rose by them
pub record LoadsIn {T : Type 0} (language : Language T) (files : Option (List File)) (taken taken' : ℕ) (name : List ℕ) (tree : T) : Type 0 where
  pub gives : GivesIn language files name tree
  pub number : taken' ≡ number_after taken (length gives.octets)

-- each file in turn gives its specification
abbrev pub EachGives : Option (List File) → List (List ℕ) → List SpecTree → Type 0
EachGives files [] [] = Unit {0}
EachGives files [] (spec ∷ specs) = ⊥
EachGives files (name ∷ names) [] = ⊥
EachGives files (name ∷ names) (spec ∷ specs) = GivesSpec files name spec × EachGives files names specs

-- the number of octets taken once these files gave their octets, each once, from that number on
abbrev pub taken_by : (files : Option (List File)) (names : List (List ℕ)) (specs : List SpecTree) → EachGives files names specs → ℕ → ℕ
taken_by files [] specs each taken = taken
taken_by files (name ∷ names) [] each taken = taken
taken_by files (name ∷ names) (spec ∷ specs) each taken = taken_by files names specs each.1 (number_after taken (length each.0.octets))

-- what is counted from the load on before which so many octets were taken
abbrev pub from_load : LibraryCounts → ℕ → LibraryCounts
from_load c taken = record { faults = c.faults; faults' = c.faults'; taken = taken; taken' = c.taken' }

-- none of these specifications has the category of one before it
abbrev pub AreNewAfter : List SpecTree → List SpecTree → Type 0
AreNewAfter before [] = Unit {0}
AreNewAfter before (spec ∷ specs) = (spec_of spec.category before ≡ None) × AreNewAfter (before ++ spec ∷ []) specs

-- the files give these specifications, no category twice where the categories have to be distinct
pub record FilesGive (distinct : Bool) (files : Option (List File)) (names : List (List ℕ)) (specs : List SpecTree) : Type 0 where
  pub each : EachGives files names specs
  pub categories : IsTrue distinct → AreNewAfter [] specs

-- ---- a file ends the run: the one of number i, after files that gave these specifications

pub record IsRefusedOctets {T : Type 0} (language : Language T) (files : Option (List File)) (name : List ℕ) (fault : SpecFault) : Type 0 where
  pub octets : List ℕ
  pub holds : HoldsFile files name octets
  pub refused : IsRefusedIn language octets fault

abbrev pub IsRefusedFile : {T : Type 0} → Language T → Option (List File) → LibraryCounts → List ℕ → SpecFault → Type 0
IsRefusedFile language files c name TooLarge = TooMany files name largest_file c.taken c.taken'
IsRefusedFile language files c name (BadByte at) = IsRefusedOctets language files name (BadByte at)
IsRefusedFile language files c name (TooDeep token) = IsRefusedOctets language files name (TooDeep token)
IsRefusedFile language files c name (BadToken token) = IsRefusedOctets language files name (BadToken token)
IsRefusedFile language files c name (Flawed flaws) = IsRefusedOctets language files name (Flawed flaws)

pub record HasCategoryTwice (files : Option (List File)) (before : List SpecTree) (name : List ℕ) (category : ℕ) : Type 0 where
  pub spec : SpecTree
  pub gives : GivesSpec files name spec
  pub is : category ≡ spec.category
  pub twice : IsSome (spec_of category before)

-- by itself: it isn't there, a fault of the library, it is refused, or want of memory
abbrev pub StopsAtFile : {T : Type 0} → Language T → Option (List File) → LibraryCounts → List ℕ → ℕ → LoadStop → Type 0
StopsAtFile language files c name i (LoadFault n) = (n ≡ i) × (Rose c.faults c.faults' ⊎ Lacks files name)
StopsAtFile language files c name i (SpecRefused n fault) = (n ≡ i) × IsRefusedFile language files c name fault
StopsAtFile language files c name i OutOfMemory = Unit {0}
StopsAtFile language files c name i (CategoryTwice n category) = ⊥

-- it gives no octets: it isn't there, a fault of the library, it is too large, or want of memory
abbrev pub HasNoOctets : Option (List File) → LibraryCounts → List ℕ → ℕ → LoadStop → Type 0
HasNoOctets files c name i (LoadFault n) = (n ≡ i) × (Rose c.faults c.faults' ⊎ Lacks files name)
HasNoOctets files c name i (SpecRefused n TooLarge) = (n ≡ i) × TooMany files name largest_file c.taken c.taken'
HasNoOctets files c name i (SpecRefused n fault) = ⊥
HasNoOctets files c name i OutOfMemory = Unit {0}
HasNoOctets files c name i (CategoryTwice n category) = ⊥

-- a file ends the run by itself, or, where the categories have to be distinct, by its category, which is that of an earlier one
pub data EndsAtFile (distinct : Bool) (files : Option (List File)) (c : LibraryCounts) (before : List SpecTree) (name : List ℕ) (i : ℕ) (outcome : LoadStop) : Type 0 where
  by_file : StopsAtFile category_files files c name i outcome → EndsAtFile distinct files c before name i outcome
  by_category : IsTrue distinct → (category : ℕ) → outcome ≡ CategoryTwice i category → HasCategoryTwice files before name category → EndsAtFile distinct files c before name i outcome

-- the files before one give specifications, and that one ends the run so: too large by what its own load took
pub record FilesEnd (distinct : Bool) (files : Option (List File)) (c : LibraryCounts) (names : List (List ℕ)) (outcome : LoadStop) : Type 0 where
  pub earlier : List (List ℕ)
  pub name : List ℕ
  pub more : List (List ℕ)
  pub split : names ≡ earlier ++ (name ∷ more)
  pub before : List SpecTree
  pub give : FilesGive distinct files earlier before
  pub ends : EndsAtFile distinct files (from_load c (taken_by files earlier before give.each c.taken)) before name (length earlier) outcome

-- ---- a category file and an expansion file

-- the category file ends the run; or it gives a specification, and the expansion file, which is the second one, ends the run
pub data EitherEnds (files : Option (List File)) (c : LibraryCounts) (name expansion : List ℕ) (outcome : LoadStop) : Type 0 where
  first : FilesEnd false files c (name ∷ []) outcome → EitherEnds files c name expansion outcome
  second : (spec : SpecTree) (give : FilesGive false files (name ∷ []) (spec ∷ [])) → StopsAtFile expansion_files files (from_load c (taken_by files (name ∷ []) (spec ∷ []) give.each c.taken)) expansion 1 outcome
      → EitherEnds files c name expansion outcome

-- ---- of a library that is told before and after

-- the file of this name ends the run
abbrev pub StopsHere : {L T : Type 0} → LibraryOf.Ghosts L → L → L → Language T → List ℕ → ℕ → LoadStop → Type 0
StopsHere ghosts before after language name file stop = StopsAtFile language (ghosts.files before) (library_counts ghosts before after) name file stop

-- the specification of the file of this name or the expansion of the other ends it
abbrev pub EitherStops : {L : Type 0} → LibraryOf.Ghosts L → L → L → List ℕ → List ℕ → LoadStop → Type 0
EitherStops ghosts before after name expansion stop = EitherEnds (ghosts.files before) (library_counts ghosts before after) name expansion stop

-- one of the files of these names does
abbrev pub OneStops : {L : Type 0} → LibraryOf.Ghosts L → L → L → Bool → List (List ℕ) → LoadStop → Type 0
OneStops ghosts before after distinct names stop = FilesEnd distinct (ghosts.files before) (library_counts ghosts before after) names stop

-- the octets of the files up to it were taken
abbrev pub TookUpTo : {L : Type 0} → LibraryOf.Ghosts L → L → L → List (List ℕ) → LoadStop → Type 0
TookUpTo ghosts before after names stop = TookThrough (ghosts.files before) (ghosts.taken before) (ghosts.taken after) names stop
