use Rattle.std.proofs.Common.{ℕ, ◌+◌, ◌-◌, ◌≤◌, false, drop, length}
use Rattle.ax_codec.specs.Table.{record_kind_at}
use Rattle.ax_walk.proofs.BodySteps.{BodyTo}
use Rattle.ax_walk.specs.Pieces.{ArePieces}
use Rattle.ax_walk.proofs.view.scan.Given as goal

abbrev pub invariant-loop-at : goal.invariant-loop-at
invariant-loop-at l = record {
  body : BodyTo l.codec l.body l.at l.notes.least;
  count : l.count ≤ l.at;
  records : (n : ℕ) → ArePieces false (record_kind_at l.codec.nodes l.codec.slots) n (drop l.at l.body) → ArePieces false (record_kind_at l.codec.nodes l.codec.slots) (l.count + n) l.body;
}

abbrev pub decreases-loop-at : goal.decreases-loop-at
decreases-loop-at l = length l.body - l.at
