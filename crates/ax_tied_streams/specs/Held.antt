-- What a call changes of what is held back.
use Rattle.std.specs.Prelude.{◌≡◌, ◌≢◌, ℕ, ◌+◌, ◌-◌, ◌<◌, ◌^◌, min, List, [], ◌++◌, length, Option, Some, None, IsSome}
use Rattle.ax_tied_streams.specs.Streams.{Streams}
use Rattle.ax_tied_streams.specs.Puts.{Put, HasPut}
use Rattle.ax_tied_streams.specs.declared.puts.Stop.{Stop}

-- nothing was read or written, and what has failed stays so
pub record IsStill (s s' : Streams) : Type 0 where
  pub input : s'.input ≡ s.input
  pub output : s'.output ≡ s.output
  pub report : s'.report ≡ s.report
  pub failed : s'.failed ≡ s.failed

-- lines are held back, or counted as lost where a write has failed
pub record HoldsLines (s s' : Streams) (text : List ℕ) : Type 0 where
  pub dropped : IsSome s.failed → s' ≡ record s { lost = min (s.lost + length text) (2 ^ 128 - 1) }
  pub first : s.failed ≡ None → s.lines ≡ [] → s' ≡ record s { lines = s.lines ++ text; before = length s.octets }
  pub more : s.failed ≡ None → s.lines ≢ [] → s' ≡ record s { lines = s.lines ++ text }

-- what was put between two states
abbrev pub put_of : Streams → Streams → Put
put_of s s' = record {
  output = s.output;
  output' = s'.output;
  report = s.report;
  report' = s'.report;
  octets = s.octets;
  lines = s.lines;
  before = s.before;
  leading = s.leading;
}

-- how a write that stopped is kept
abbrev pub KeepsStop : Option Stop → Streams → Type 0
KeepsStop None s = s.failed ≡ None
KeepsStop (Some stop) s = (s.failed ≡ Some stop.failed) × (s.lost ≡ stop.lost) × (stop.lost < 2 ^ 128)

-- what is held back was put, as far as no write failed
pub record PutsHeld (s s' : Streams) : Type 0 where
  pub stop : Option Stop
  pub put : HasPut stop (put_of s s')
  pub kept : KeepsStop stop s'
  pub input : s'.input ≡ s.input

-- with nothing held back
abbrev pub emptied : Streams → Streams
emptied s = record s { octets = []; lines = []; before = 0; leading = 0 }
