-- Tied streams, as a caller sees them.
use Rattle.std.specs.Prelude.{ℕ, List, Option}
use Rattle.std.specs.declared.io.traits.Read as ReadOf
use Rattle.std.specs.declared.io.traits.Write as WriteOf
use Rattle.ax_tied_streams.specs.declared.puts.Failed.{Failed}
use Rattle.ax_tied_streams.specs.declared.streams.TiedStreams.{TiedStreams}

-- what the input has left, and what the output and the report hold, where they tell that; what is held back for them; and what has failed
pub record Streams : Type 0 where
  pub input : Option (List ℕ)
  pub output : Option (List ℕ)
  pub report : Option (List ℕ)
  pub octets : List ℕ
  pub lines : List ℕ
  pub before : ℕ
  pub leading : ℕ
  pub lost : ℕ
  pub failed : Option Failed

module _ {R W P : Type 0} {reader : ReadOf.Ghosts R} {writer : WriteOf.Ghosts W} {reporter : WriteOf.Ghosts P} where
  abbrev pub streams_of : TiedStreams R W P reader writer reporter → Streams
  streams_of s = record {
    input = reader.remaining s.input;
    output = writer.contents s.output;
    report = reporter.contents s.report;
    octets = s.octets.items;
    lines = s.lines.items;
    before = s.before;
    leading = s.leading;
    lost = s.lost;
    failed = s.failed;
  }
