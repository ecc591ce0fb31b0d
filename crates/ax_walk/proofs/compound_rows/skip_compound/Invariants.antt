use Rattle.std.proofs.Common.{◌≡◌, ℕ, ◌+◌, ◌-◌, ◌*◌, ◌%◌, ◌<◌, ◌≤◌, length, get_or, IsTrue}
use Rattle.ax_walk.specs.Marked.{slots_under}
use Rattle.ax_walk.specs.Rows.{HaveRows}
use Rattle.ax_walk.proofs.SkipSteps.{FieldSkips}
use Rattle.ax_walk.proofs.compound_rows.skip_compound.Given as goal

abbrev pub invariant-loop-count : goal.invariant-loop-count
invariant-loop-count l = record {
  within : l.start.at + l.count ≤ length l.start.body.now;
  goes_on : (j : ℕ) → j < l.count → get_or l.start.body.now (l.start.at + j) 0 % 2 ≡ 1;
  most : l.skip ≤ 4294967295 * l.count;
  rows : HaveRows l.table.octets.now (slots_under l.table.nodes.now l.link) l.start.body.now l.start.at l.count;
  skips : FieldSkips l.table.nodes.now l.start.body.now (slots_under l.table.nodes.now l.link) l.start.at l.count l.skip;
  falls : IsTrue l.notes.least → IsTrue l.fn.notes.least;
}

abbrev pub decreases-loop-count : goal.decreases-loop-count
decreases-loop-count l = length l.start.body.now - l.count
