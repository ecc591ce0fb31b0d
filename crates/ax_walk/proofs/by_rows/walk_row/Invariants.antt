use Rattle.std.proofs.Common.{◌-◌, ◌+◌, ◌<◌, ◌≤◌, ◌++◌, ℕ, List, length, drop, IsTrue}
use Rattle.ax_fspec.specs.Marks.{seven}
use Rattle.ax_walk.specs.Rows.{slots_at}
use Rattle.ax_walk.proofs.RowSteps.{RowAt}
use Rattle.ax_walk.proofs.by_rows.walk_row.Given as goal

abbrev pub invariant-loop-body : goal.invariant-loop-body
invariant-loop-body g l = record {
  row : (s : ℕ) (more : List ℕ) → RowAt l.slots.table.nodes.now l.slots.table.octets.now l.start.body.now s (slots_at l.row.index l.slots.links.now) (seven l.row.marks ++ more) l.start.at (s + 7) (drop 7 (slots_at l.row.index l.slots.links.now)) more l.row.steps.now l.place l.here l.notes.least;
  there : l.place < length l.row.steps.now;
  within : l.here ≤ length l.start.body.now;
  falls : IsTrue l.notes.least → IsTrue l.fn.notes.least;
}

abbrev pub decreases-loop-body : goal.decreases-loop-body
decreases-loop-body g l = length l.row.steps.now - l.place
