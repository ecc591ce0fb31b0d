use Rattle.ax_codec.proofs.Growing.{made_node}
use Rattle.ax_codec.proofs.build.add.Goals as goal

pub returns : goal.returns
returns c = made_node c.args.nodes.now c.push.new.self c.args.one c.count-2.result c.requires.table c.requires.node c.in_ok-push.ensures.ok c.count-2.ensures
