-- What a run takes from its library, and which faults it counts before the lines of its outcome.
use Rattle.std.specs.Prelude.{◌≡◌, ℕ, ◌+◌, ◌≤◌, List, [], Option}
use Rattle.ax_command.specs.declared.outcome.Outcome.{Outcome}
use Rattle.ax_command.specs.declared.outcome.Outcome.TheVariants as OutcomeOf
use Rattle.ax_load.specs.Counting.{TookFiles, TookThrough}
use Rattle.ax_load.specs.declared.fault.LoadStop.{LoadStop}
use Rattle.ax_load.specs.declared.fault.LoadStop.TheVariants.{LoadFault}
use Rattle.ax_endpoints.specs.Changes.{LibraryCounts, SourceChange, SinkChange, IsUnasked}
use Rattle.ax_endpoints.specs.Files.{File}
use Rattle.ax_words.specs.declared.line.Line.{Line}
use Rattle.ax_app.specs.Given.{all_files_of}

-- one fault at most where a file couldn't be loaded, and else none
abbrev pub CountsAt : LoadStop → LibraryCounts → Type 0
CountsAt (LoadFault file) c = c.faults' ≤ c.faults + 1
CountsAt _ c = c.faults' ≡ c.faults

-- each file of these names was loaded once, in order, and no other; where there are none nothing was asked
pub record LoadsEach (names : List (List ℕ)) (files : Option (List File)) (c : LibraryCounts) : Type 0 where
  pub quiet : c.faults' ≡ c.faults
  pub took : TookFiles files c.taken c.taken' names
  pub unasked : names ≡ [] → IsUnasked c

-- so were those as far as the one at which loading stops
pub record LoadsUpTo (names : List (List ℕ)) (files : Option (List File)) (c : LibraryCounts) (stop : LoadStop) : Type 0 where
  pub counts : CountsAt stop c
  pub took : TookThrough files c.taken c.taken' names stop

-- of the files of a line
abbrev pub LoadsAll : Line → Option (List File) → LibraryCounts → Type 0
LoadsAll what files c = LoadsEach (all_files_of what) files c

abbrev pub LoadsThrough : Line → Option (List File) → LibraryCounts → LoadStop → Type 0
LoadsThrough what files c stop = LoadsUpTo (all_files_of what) files c stop

-- the counts of the library, the source and the two sinks
pub record NoneCounted (c : LibraryCounts) (i : SourceChange) (o r : SinkChange) : Type 0 where
  pub library : c.faults' ≡ c.faults
  pub source : i.faults' ≡ i.faults
  pub out : o.faults' ≡ o.faults
  pub report : r.faults' ≡ r.faults

-- one fault at most was counted, of the object that the outcome names; where it names none no count rose
abbrev pub CountsOnly : LibraryCounts → SourceChange → SinkChange → SinkChange → Outcome → Type 0
CountsOnly c i o r (OutcomeOf.LoadFault file) = (c.faults' ≤ c.faults + 1) × (i.faults' ≡ i.faults) × (o.faults' ≡ o.faults) × (r.faults' ≡ r.faults)
CountsOnly c i o r OutcomeOf.ReadFault = (c.faults' ≡ c.faults) × (i.faults' ≤ i.faults + 1) × (o.faults' ≡ o.faults) × (r.faults' ≡ r.faults)
CountsOnly c i o r OutcomeOf.WriteFault = (c.faults' ≡ c.faults) × (i.faults' ≡ i.faults) × (o.faults' ≤ o.faults + 1) × (r.faults' ≡ r.faults)
CountsOnly c i o r OutcomeOf.ReportFault = (c.faults' ≡ c.faults) × (i.faults' ≡ i.faults) × (o.faults' ≡ o.faults) × (r.faults' ≤ r.faults + 1)
CountsOnly c i o r _ = NoneCounted c i o r
