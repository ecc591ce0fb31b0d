use Rattle.std.proofs.Common.{refl, ◌∙◌}
use Rattle.ax_walk.proofs.Contents.{explicit_one, explicit_value, no_content}
use Rattle.ax_walk.proofs.item.ItemView.explicit.Goals as goal

pub content-requires : goal.content-requires
content-requires c = explicit_one c.args.self.now.codec.now c.args.self.now.link c.args.self.now.by_fx c.args.self.now.body.now c.node.result.now c.args.self.now.item c.node.ensures c.in-Explicit.is

pub returns-in-Explicit : goal.returns-in-Explicit
returns-in-Explicit c = c.content.ensures.value ∙ explicit_value c.args.self.now.codec.now c.args.self.now.link c.args.self.now.by_fx c.args.self.now.body.now c.node.result.now c.args.self.now.item c.node.ensures c.in-Explicit.is

pub returns-in_default : goal.returns-in_default
returns-in_default c = no_content c.args.self.now.codec.now c.args.self.now.link c.args.self.now.by_fx c.args.self.now.body.now c.node.result.now c.args.self.now.item c.node.ensures c.node.result.now refl c.in_default.not-Explicit
