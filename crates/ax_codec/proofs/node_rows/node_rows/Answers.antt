use Rattle.ax_codec.proofs.NodeRowLists.{none_rows}
use Rattle.ax_codec.proofs.node_rows.node_rows.Goals as goal

pub returns-in_default : goal.returns-in_default
returns-in_default c = none_rows c.args.octets.now c.args.node.now c.new.result c.new.ensures.rows c.new.ensures.none

pub returns-then-fields-left : goal.returns-then-fields-left
returns-then-fields-left c = none_rows c.args.octets.now c.args.node.now c.new-then-fields-left.result c.new-then-fields-left.ensures.rows c.new-then-fields-left.ensures.none
