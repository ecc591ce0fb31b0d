use Rattle.ax_codec.specs.Table.{kind_at}
use Rattle.ax_walk.proofs.Spelled.{item_spells}
use Rattle.ax_walk.proofs.item.ItemView.octets.Goals as goal

pub returns-clause-spelled : goal.returns-clause-spelled
returns-clause-spelled c = item_spells c.args.self.now.by_fx (kind_at c.args.self.now.codec.now.nodes c.args.self.now.link) c.args.self.now.body.now c.args.self.now.item.bounds c.args.self.now.item.one
