use Rattle.ax_walk.proofs.RowFields.{rows_items_if}
use Rattle.ax_walk.proofs.by_rows.items_by_rows.Goals as goal

pub returns : goal.returns
returns c =
    rows_items_if c.args.codec.now c.of-slots.result.table.nodes.now c.of-slots.result.links.now c.of-slots.result.table.octets.now c.args.body.now c.args.at c.in_ok-octets.octets c.walk_rows.new.notes.least c.walk_rows.result c.of-slots.ensures.nodes c.of-slots.ensures.links
    c.in_ok-octets.ensures.field c.in_ok-octets.ensures.few c.walk_rows.ensures.rows c.walk_rows.ensures.end
