-- What is told and counted of an object of the outside, before and after.
use Rattle.std.specs.Prelude.{◌≡◌, ℕ, ◌+◌, ◌<◌, ◌≤◌, List, ◌++◌, length, take, Option, Result, OnOk, OnErr}
use Rattle.ax_endpoints.specs.Told.{with_front, with_end, Rose}
use Rattle.ax_endpoints.specs.declared.libraries.Library as LibraryOf
use Rattle.ax_endpoints.specs.declared.sinks.Sink as SinkOf
use Rattle.ax_endpoints.specs.declared.sinks.SinkFailed.{SinkFailed}
use Rattle.ax_endpoints.specs.declared.sources.Source as SourceOf

-- ---- a library: a call leaves its files as they were

pub record LibraryCounts : Type 0 where
  pub faults : ℕ
  pub faults' : ℕ
  pub taken : ℕ
  pub taken' : ℕ

abbrev pub library_counts : {L : Type 0} → LibraryOf.Ghosts L → L → L → LibraryCounts
library_counts ghosts before after = record {
  faults = ghosts.faults before;
  faults' = ghosts.faults after;
  taken = ghosts.taken before;
  taken' = ghosts.taken after;
}

-- no fault of the library and no octet is counted
abbrev pub none_counted : LibraryCounts
none_counted = record { faults = 0; faults' = 0; taken = 0; taken' = 0 }

-- nothing was loaded
pub record IsUnasked (c : LibraryCounts) : Type 0 where
  pub faults : c.faults' ≡ c.faults
  pub taken : c.taken' ≡ c.taken

-- ---- a source

pub record SourceChange : Type 0 where
  pub left : Option (List ℕ)
  pub left' : Option (List ℕ)
  pub taken : ℕ
  pub taken' : ℕ
  pub faults : ℕ
  pub faults' : ℕ

abbrev pub source_change : {S : Type 0} → SourceOf.Ghosts S → S → S → SourceChange
source_change ghosts before after = record {
  left = ghosts.left before;
  left' = ghosts.left after;
  taken = ghosts.taken before;
  taken' = ghosts.taken after;
  faults = ghosts.faults before;
  faults' = ghosts.faults after;
}

-- no octet was taken
pub record IsUntouched (i : SourceChange) : Type 0 where
  pub left : i.left' ≡ i.left
  pub taken : i.taken' ≡ i.taken

-- octets were taken that stand at the front of the buffer, which they don't fill
abbrev pub TakesFront : SourceChange → List ℕ → Type 0
TakesFront i buffer = (n : ℕ) × (n < length buffer) × (i.left ≡ with_front (take n buffer) i.left') × (i.taken' ≡ i.taken + n)

-- ---- a sink

pub record SinkChange : Type 0 where
  pub held : Option (List ℕ)
  pub held' : Option (List ℕ)
  pub faults : ℕ
  pub faults' : ℕ

abbrev pub sink_change : {K : Type 0} → SinkOf.Ghosts K → K → K → SinkChange
sink_change ghosts before after = record {
  held = ghosts.held before;
  held' = ghosts.held after;
  faults = ghosts.faults before;
  faults' = ghosts.faults after;
}

-- a change in two steps: up to what is told and counted between, and from there on
abbrev pub first_step : SinkChange → Option (List ℕ) → ℕ → SinkChange
first_step o between counted = record { held = o.held; held' = between; faults = o.faults; faults' = counted }

abbrev pub second_step : SinkChange → Option (List ℕ) → ℕ → SinkChange
second_step o between counted = record { held = between; held' = o.held'; faults = counted; faults' = o.faults' }

-- exactly the text was added
abbrev pub Gains : SinkChange → List ℕ → Type 0
Gains o text = o.held' ≡ with_end o.held text

-- nothing was added
abbrev pub GainsNothing : SinkChange → Type 0
GainsNothing o = o.held' ≡ o.held

-- a prefix of the text was added, not all of it, and the count of faults rose
pub record GainsPart (o : SinkChange) (text : List ℕ) : Type 0 where
  pub count : ℕ
  pub within : count < length text
  pub gained : o.held' ≡ with_end o.held (take count text)
  pub rose : Rose o.faults o.faults'

-- the text was added, and of the one after it a prefix, not all of it
pub record GainsWithPart (o : SinkChange) (text end : List ℕ) : Type 0 where
  pub count : ℕ
  pub within : count < length end
  pub gained : o.held' ≡ with_end o.held (text ++ take count end)

-- a call that writes the text: all of it was added, and no fault was counted, or a prefix at a failure, and one fault at most
pub record Wrote (o : SinkChange) (result : Result Unit SinkFailed) (text : List ℕ) : Type 0 where
  pub whole : OnOk result (Gains o text)
  pub part : OnErr result (GainsPart o text)
  pub later : o.faults ≤ o.faults'
  pub once : o.faults' ≤ o.faults + 1
  pub quiet : OnOk result (o.faults' ≡ o.faults)

-- ---- a source, a sink of the output and one of the report

pub record Changes : Type 0 where
  pub source : SourceChange
  pub out : SinkChange
  pub report : SinkChange

-- those of three objects, each before and after
abbrev pub changes_of : {S K R : Type 0} → SourceOf.Ghosts S → SinkOf.Ghosts K → SinkOf.Ghosts R → S → S → K → K → R → R → Changes
changes_of source_ghosts out_ghosts report_ghosts source source' out out' report report' = record {
  source = source_change source_ghosts source source';
  out = sink_change out_ghosts out out';
  report = sink_change report_ghosts report report';
}
