use Rattle.std.proofs.Common.{length, ◌-◌, ◌≤◌, take}
use Rattle.std.specs.Io.KnownBytes.{Appends}
use Rattle.ax_tied_streams.proofs.puts.put.Given as goal

-- so many octets of the piece were added
abbrev pub invariant-loop-at : goal.invariant-loop-at
invariant-loop-at g l = let contents = g.W.Write.contents in record {
  within : l.at ≤ length l.piece;
  adds : Appends (contents l.fn.writer) (contents l.writer) (take l.at l.piece);
}

abbrev pub decreases-loop-at : goal.decreases-loop-at
decreases-loop-at g l = length l.piece - l.at
