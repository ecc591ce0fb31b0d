use Rattle.std.proofs.Common.{[], Some}
use Rattle.ax_walk.proofs.RowFields.{rows_walked}
use Rattle.ax_walk.proofs.by_rows.walk_by_rows.Goals as goal

pub returns-clause-end : goal.returns-clause-end
returns-clause-end g c =
    rows_walked c.args.slots.table.nodes.now c.args.slots.table.octets.now c.args.slots.links.now c.args.slots.mask.now c.args.start.body.now c.args.start.at c.in_ok-field.field c.are_octets.ensures c.args.slots.slots.bounds c.args.slots.slots.mask c.args.slots.mask.now.few
    c.in_ok-field.ensures.field c.in_ok-field.ensures.few c.note_field.new.notes.least c.walk_rows.new.notes.least (Some c.in_ok-end.end) c.note_field.ensures.needed c.walk_rows.ensures.falls c.in_ok-end.ensures.rows c.in_ok-end.ensures.end

pub returns-clause-inside : goal.returns-clause-inside
returns-clause-inside g c = (c.in_ok-end.ensures.end []).leads.forwards
