use Rattle.std.proofs.Common.{◌+◌, ◌≤◌, length, IsTrue}
use Rattle.ax_walk.specs.Rows.{HaveRows}
use Rattle.ax_walk.proofs.RowFields.{FieldLeads}
use Rattle.ax_walk.proofs.by_rows.walk_rows.Given as goal

abbrev pub invariant-loop-index : goal.invariant-loop-index
invariant-loop-index g l = record {
  rows : HaveRows l.slots.table.octets.now l.slots.links.now l.field.start.body.now l.field.start.at l.index;
  leads : FieldLeads l.slots.table.nodes.now l.field.start.body.now l.slots.links.now l.field.start.at (l.field.start.at + l.field.octets) l.index l.here l.notes.least;
  within : l.here ≤ length l.field.start.body.now;
  falls : IsTrue l.notes.least → IsTrue l.fn.notes.least;
}
