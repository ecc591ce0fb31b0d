use Rattle.ax_codec.proofs.NodeRowLists.{links_there}
use Rattle.ax_codec.proofs.node_rows.rows_of_compounds.Goals as goal

pub node_rows-requires : goal.node_rows-requires
node_rows-requires c = record { links = links_there c.args.nodes.now c.args.octets.now c.loop-index.index c.index-nodes-index.result c.requires.table c.requires.octets c.loop-index-test.true c.index-nodes-index.is }
