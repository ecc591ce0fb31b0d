-- What is said of a run as a whole.
use Rattle.std.specs.Prelude.{◌≡◌, ℕ, ◌⊎◌, List, [], map, Option, Some, String, string_bytes}
use Rattle.ax_bits.specs.Bits.{AreOctets}
use Rattle.ax_command.specs.Lines.{lines_of}
use Rattle.ax_command.specs.declared.outcome.Outcome.{Outcome}
use Rattle.ax_command.specs.declared.outcome.Outcome.TheVariants.{Done, Usage, OutOfMemory}
use Rattle.ax_endpoints.specs.Changes.{Changes, changes_of, LibraryCounts, library_counts, IsUntouched, GainsNothing}
use Rattle.ax_endpoints.specs.Files.{File}
use Rattle.ax_endpoints.specs.declared.libraries.Library as LibraryOf
use Rattle.ax_endpoints.specs.declared.sinks.Sink as SinkOf
use Rattle.ax_endpoints.specs.declared.sources.Source as SourceOf
use Rattle.ax_words.specs.Words.{HasShape, HasNoShape}
use Rattle.ax_words.specs.declared.line.Line.{Line}
use Rattle.ax_app.specs.Completing.{NoFaultCounted, HasWhole, IsDoneWith}
use Rattle.ax_app.specs.Counting.{LoadsAll, CountsOnly}
use Rattle.ax_app.specs.Given.{Given, LineGives}
use Rattle.ax_app.specs.Headline.{Headline, HeadlineOfTaken}
use Rattle.ax_app.specs.Tasks.{Task, ReadsInput}
use Rattle.ax_app.specs.Running.{Runs, Does, Causes, LinesSplit, before_lines, NoCountFell, NoFaultFell, WantsFirst, AsksForMemory, IsOfItsCommand}

-- the octets of each word
abbrev pub texts : {Z : Type 0} → List (String Z) → List (List ℕ)
texts words = map string_bytes words

-- ---- all of the outside

-- the files of the library, where it tells them, and what is counted of it; and what is told and counted of the others
pub record Outside : Type 0 where
  pub files : Option (List File)
  pub library : LibraryCounts
  pub io : Changes

abbrev pub outside : {L : Type 0} → LibraryOf.Ghosts L → L → L → Changes → Outside
outside ghosts before after x = record { files = ghosts.files before; library = library_counts ghosts before after; io = x }

-- ---- before the lines of its outcome

-- what a line does over what its files gave
pub record ObeysLoaded (line : Line) (given : Given) (x : Changes) (outcome : Outcome) : Type 0 where
  pub runs : (words : List (List ℕ)) (files : Option (List File)) (c : LibraryCounts) → HasShape words line → LineGives line files given → LoadsAll line files c → Runs words files c x.source x.out x.report outcome
  pub first : WantsFirst line x outcome
  pub later : NoFaultFell x

-- where memory was wanting the source is untouched and nothing was written, but of a command that takes memory once it reads
abbrev pub WantsMemory : List (List ℕ) → Changes → Outcome → Type 0
WantsMemory words x outcome = outcome ≡ OutOfMemory → AsksForMemory words ⊎ (IsUntouched x.source × GainsNothing x.out)

-- what these words do
pub record Obeys (words : List (List ℕ)) (w : Outside) (outcome : Outcome) : Type 0 where
  pub runs : Runs words w.files w.library w.io.source w.io.out w.io.report outcome
  pub first : WantsMemory words w.io outcome
  pub later : NoCountFell w.library w.io.source w.io.out w.io.report

-- what all words do that ask for this line
abbrev pub ObeysLine : Line → Outside → Outcome → Type 0
ObeysLine line w outcome = (words : List (List ℕ)) → HasShape words line → Obeys words w outcome

-- ---- with the lines of its outcome, which come last on the report

pub record IsRun (words : List (List ℕ)) (w : Outside) (outcome : Outcome) : Type 0 where
  -- where they begin: one place, of which the next four fields speak
  pub split : LinesSplit w.io.report (lines_of outcome)
  -- of a library and a source that tell their content
  pub headline : (files : List File) (input : List ℕ) → AreOctets input → w.files ≡ Some files → w.io.source.left ≡ Some input
      → Headline words files w.library input w.io.source w.io.out (before_lines w.io.report (lines_of outcome) split) outcome
  -- of a library that does
  pub headline_of_taken : (files : List File) → w.files ≡ Some files
      → HeadlineOfTaken words files w.library w.io.source w.io.out (before_lines w.io.report (lines_of outcome) split) outcome
  pub runs : Runs words w.files w.library w.io.source w.io.out (before_lines w.io.report (lines_of outcome) split) outcome
  pub counts : CountsOnly w.library w.io.source w.io.out (before_lines w.io.report (lines_of outcome) split) outcome
  pub usage : outcome ≡ Usage → HasNoShape words
  pub no_shape : HasNoShape words → (outcome ≡ Usage) ⊎ (outcome ≡ OutOfMemory)
  pub causes : Causes w.io.source w.io.out w.io.report outcome
  pub of_its_command : IsOfItsCommand words outcome
  pub memory : WantsMemory words w.io outcome
  pub later : NoCountFell w.library w.io.source w.io.out w.io.report
  -- at Done of a command that reads its input
  pub reads_all : (files : List File) (input : List ℕ) (task : Task) (blocks : ℕ) → AreOctets input → w.files ≡ Some files → w.io.source.left ≡ Some input
      → Does words (Some files) task → ReadsInput task → outcome ≡ Done blocks → w.io.source.left' ≡ Some []
  -- where nothing stands in the way
  pub completes : (files : List File) (input : List ℕ) (task : Task) (count : ℕ) (written reported : List ℕ) → AreOctets input → w.files ≡ Some files → w.io.source.left ≡ Some input
      → NoFaultCounted w.library w.io.source w.io.out w.io.report → Does words (Some files) task → HasWhole task input count written reported
      → IsDoneWith outcome count w.io.out w.io.report written reported

-- of these words, over a library, a source and two sinks, each before and after
abbrev pub IsRunOf : {L S K R Z : Type 0} → LibraryOf.Ghosts L → SourceOf.Ghosts S → SinkOf.Ghosts K → SinkOf.Ghosts R → List (String Z) → L → L → S → S → K → K → R → R → Outcome → Type 0
IsRunOf library_ghosts source_ghosts out_ghosts report_ghosts words library library' source source' out out' report report' outcome =
    IsRun (texts words) (outside library_ghosts library library' (changes_of source_ghosts out_ghosts report_ghosts source source' out out' report report')) outcome
