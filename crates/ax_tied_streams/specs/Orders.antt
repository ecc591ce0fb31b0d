-- What is out of a history, where writes may have failed.
use Rattle.std.specs.Prelude.{◌≡◌, ◌≢◌, ℕ, ◌-◌, ◌^◌, ◌<◌, ◌≤◌, ◌⊎◌, List, [], ◌++◌, length, take, drop, min, Option, Some, None, Result, Ok, Err, ◌∷◌}
use Rattle.std.specs.Io.KnownBytes.{Appends}
use Rattle.ax_tied_streams.specs.Histories.{Piece, octets_of, lines_of, last_lines, HasMoment}
use Rattle.ax_tied_streams.specs.Histories.Piece.{to_output, to_report}
use Rattle.ax_tied_streams.specs.Streams.{Streams}
use Rattle.ax_tied_streams.specs.declared.puts.Failed.{Failed}
use Rattle.ax_tied_streams.specs.declared.puts.Failed.TheVariants.{Output, Report, Both}
use Rattle.ax_tied_streams.specs.declared.streams.Ending.{Ending}
use Rattle.ax_tied_streams.specs.declared.streams.Ending.TheVariants.{Whole, OutputFailed, LineLost, OwnLineLost}

-- whatever octets are out, the lines given before them are out: at some moment these octets had been given, and maybe more, and of the
-- lines these, or fewer
pub record IsInOrder (history : List Piece) (octets lines : List ℕ) : Type 0 where
  pub octets_left : List ℕ
  pub lines_by_then : List ℕ
  pub lines_since : List ℕ
  pub moment : HasMoment history (octets ++ octets_left) lines_by_then
  pub lines_out : lines ≡ lines_by_then ++ lines_since

-- what isn't out is held back
pub record IsHeldBack (history : List Piece) (octets lines : List ℕ) (s : Streams) : Type 0 where
  pub all_octets : octets_of history ≡ octets ++ s.octets
  pub all_lines : lines_of history ≡ lines ++ s.lines
  -- `before` of the octets were given before the first of the lines
  pub before_within : s.before ≤ length s.octets
  pub before : s.lines ≢ [] → HasMoment history (octets ++ take s.before s.octets) lines
  -- `leading` octets of the lines were given before the last of the octets
  pub leading_within : s.leading ≤ length s.lines
  pub leading : HasMoment history (octets_of history) (lines ++ take s.leading s.lines)
  pub behind : s.leading ≢ 0 → last_lines history ≡ drop s.leading s.lines

-- octets weren't written; the lines before the last of the octets are out, and none behind them
pub record LacksOctets (history : List Piece) (octets lines lost : List ℕ) : Type 0 where
  pub octets_lost : List ℕ
  pub all_octets : octets_of history ≡ octets ++ octets_lost
  pub some : 0 < length octets_lost
  pub all_lines : lines_of history ≡ lines ++ lost
  pub moment : HasMoment history (octets_of history) lines

-- a line wasn't written: one before the last of the octets, or these are out
pub record LacksLines (history : List Piece) (octets lines lost : List ℕ) : Type 0 where
  pub octets_lost : List ℕ
  pub all_octets : octets_of history ≡ octets ++ octets_lost
  pub some : 0 < length lost
  pub all_lines : lines_of history ≡ lines ++ lost
  pub behind : (octets ≡ octets_of history) ⊎ (length (last_lines history) < length lost)

-- how many octets of lines are lost, as it is counted
abbrev pub number_lost : List ℕ → ℕ
number_lost lost = min (length lost) (2 ^ 128 - 1)

-- what isn't out of these octets and lines, by the write that has failed; where that was one to the report alone, the octets are those of
-- whole pieces, up to some moment
abbrev pub HasRest : Option Failed → List Piece → List ℕ → List ℕ → Streams → Type 0
HasRest None history octets lines s = IsHeldBack history octets lines s
HasRest (Some Output) history octets lines s = (lost : List ℕ) × LacksOctets history octets lines lost × (s.lost ≡ number_lost lost)
HasRest (Some Report) history octets lines s = (lost : List ℕ) × LacksLines history octets lines lost × (s.lost ≡ number_lost lost) × ((by_then : List ℕ) × HasMoment history octets by_then)
HasRest (Some Both) history octets lines s = (lost : List ℕ) × LacksLines history octets lines lost × (s.lost ≡ number_lost lost)

-- since the output and the report told that they hold this, the history was given: some of it is out, in order, each a prefix of what was
-- given; where no write has failed, the rest is held back
pub record HasGot (output report : Option (List ℕ)) (history : List Piece) (s : Streams) : Type 0 where
  pub octets : List ℕ
  pub lines : List ℕ
  pub octets_out : Appends output s.output octets
  pub lines_out : Appends report s.report lines
  pub order : IsInOrder history octets lines
  pub rest : HasRest s.failed history octets lines s

-- the history after a call that took octets of the piece, or none at an Err
abbrev pub after_octets : {E : Type 0} → List ℕ → Result ℕ E → List Piece → List Piece
after_octets piece (Ok n) history = to_output (take n piece) ∷ history
after_octets piece (Err e) history = history

-- the history after a call that took so many octets of a piece of lines
abbrev pub after_lines : List ℕ → ℕ → List Piece → List Piece
after_lines piece n history = to_report (take n piece) ∷ history

-- the history after a call that gave nothing
abbrev pub after_nothing : List Piece → List Piece
after_nothing history = history

-- whatever was given so far, a call adds to it
abbrev pub GoesOn : (List Piece → List Piece) → Streams → Streams → Type 0
GoesOn next s s' = (output report : Option (List ℕ)) (history : List Piece) → HasGot output report history s → HasGot output report (next history) s'

-- what isn't out at the end, of which the last `own` octets of lines are the run's own
abbrev pub EndsAs : Ending → List Piece → List ℕ → List ℕ → ℕ → Type 0
EndsAs Whole history octets lines own = (octets ≡ octets_of history) × (lines ≡ lines_of history)
EndsAs OutputFailed history octets lines own = (lost : List ℕ) × LacksOctets history octets lines lost
EndsAs LineLost history octets lines own = (lost : List ℕ) × LacksLines history octets lines lost × (own < length lost)
EndsAs OwnLineLost history octets lines own = (lost : List ℕ) × LacksLines history octets lines lost × (length lost ≤ own) × (own ≤ length (last_lines history) → octets ≡ octets_of history)

pub record HasEnded (output report output' report' : Option (List ℕ)) (history : List Piece) (own : ℕ) (ending : Ending) : Type 0 where
  pub octets : List ℕ
  pub lines : List ℕ
  pub octets_out : Appends output output' octets
  pub lines_out : Appends report report' lines
  pub order : IsInOrder history octets lines
  pub rest : EndsAs ending history octets lines own

-- how streams end where so many octets of lines are lost, of which the last `own` may be the run's own
abbrev pub TellsEnding : Option Failed → ℕ → ℕ → Ending → Type 0
TellsEnding None lost own ending = ending ≡ Whole
TellsEnding (Some Output) lost own ending = ending ≡ OutputFailed
TellsEnding (Some Report) lost own ending = (own < lost → ending ≡ LineLost) × (lost ≤ own → ending ≡ OwnLineLost)
TellsEnding (Some Both) lost own ending = (own < lost → ending ≡ LineLost) × (lost ≤ own → ending ≡ OwnLineLost)
