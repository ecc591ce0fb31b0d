-- What a write of all that is held back adds to the output and to the report.
use Rattle.std.specs.Prelude.{◌≡◌, ℕ, ◌+◌, ◌<◌, ◌≤◌, ◌⊎◌, List, length, take, Option, Some, None}
use Rattle.std.specs.Io.KnownBytes.{Appends}
use Rattle.ax_tied_streams.specs.declared.puts.Failed.{Failed}
use Rattle.ax_tied_streams.specs.declared.puts.Failed.TheVariants.{Output, Report, Both}
use Rattle.ax_tied_streams.specs.declared.puts.Stop.{Stop}

-- before and after a write of octets and lines: so many octets of the lines go in front of the octets, and so many octets stand before
-- all lines
pub record Put : Type 0 where
  pub output : Option (List ℕ)
  pub output' : Option (List ℕ)
  pub report : Option (List ℕ)
  pub report' : Option (List ℕ)
  pub octets : List ℕ
  pub lines : List ℕ
  pub before : ℕ
  pub leading : ℕ

-- a prefix of the octets was added, not all of them, and the lines in front of them, and no line behind them
pub record StopsAtOctets (p : Put) (lost : ℕ) : Type 0 where
  pub count : ℕ
  pub within : count < length p.octets
  pub octets : Appends p.output p.output' (take count p.octets)
  pub lines : Appends p.report p.report' (take p.leading p.lines)
  pub rest : lost + p.leading ≡ length p.lines

-- a prefix of the lines was added, not all of them
pub record StopsAtLines (p : Put) (lost count : ℕ) : Type 0 where
  pub within : count < length p.lines
  pub lines : Appends p.report p.report' (take count p.lines)
  pub rest : lost + count ≡ length p.lines

-- so many octets of the lines were added; with them all octets, where the lines in front of them are out, and else those before all lines
abbrev pub AddsOctets : Put → ℕ → Type 0
AddsOctets p count = ((p.leading ≤ count) × Appends p.output p.output' p.octets) ⊎ ((count < p.leading) × Appends p.output p.output' (take p.before p.octets))

-- a line in front of the octets wasn't added, and of the octets before all lines a prefix, not all of them
abbrev pub AddsFewer : Put → ℕ → Type 0
AddsFewer p count = (count < p.leading) × ((octets : ℕ) × (octets < p.before) × Appends p.output p.output' (take octets p.octets))

abbrev pub StopsAt : Failed → ℕ → Put → Type 0
StopsAt Output lost p = StopsAtOctets p lost
StopsAt Report lost p = (count : ℕ) × StopsAtLines p lost count × AddsOctets p count
StopsAt Both lost p = (count : ℕ) × StopsAtLines p lost count × AddsFewer p count

-- all was added, or a write failed
abbrev pub HasPut : Option Stop → Put → Type 0
HasPut None p = Appends p.output p.output' p.octets × Appends p.report p.report' p.lines
HasPut (Some stop) p = StopsAt stop.failed stop.lost p
