use Rattle.std.proofs.Common.{refl, subst, sym, arith}
use Rattle.ax_codec.specs.Table.{kind_at}
use Rattle.ax_walk.proofs.ItemPieces.{parts_made, parts_shown, no_parts}
use Rattle.ax_walk.specs.Shown.{ArePartsOf}
use Rattle.ax_walk.specs.Values.{value_in}
use Rattle.ax_walk.proofs.item.ItemView.parts.Goals as goal

pub of-requires : goal.of-requires
of-requires c = parts_made c.args.self.now.codec.now c.args.self.now.link c.args.self.now.by_fx c.args.self.now.body.now c.node.result.now c.args.self.now.item c.node.ensures c.in-Extended.last c.in-Extended.parts c.as_slice.result.now c.in-Extended.is c.as_slice.ensures.members

pub of-requires-in_default : goal.of-requires-in_default
of-requires-in_default c = record { links_within = tt; bounds = tt; pieces_are = refl; few = omega arith }

pub returns-in-Extended : goal.returns-in-Extended
returns-in-Extended c = record { parts = parts_shown c.args.self.now.codec.now c.args.self.now.link c.args.self.now.by_fx c.args.self.now.body.now c.node.result.now c.args.self.now.item c.node.ensures c.in-Extended.last c.in-Extended.parts c.as_slice.result.now c.in-Extended.is c.as_slice.ensures.members _ c.of.ensures }

pub returns-in_default : goal.returns-in_default
returns-in_default c = record { parts = subst (ArePartsOf (kind_at c.args.self.now.codec.now.nodes c.args.self.now.link) (value_in (kind_at c.args.self.now.codec.now.nodes c.args.self.now.link) c.args.self.now.body.now) c.args.self.now.body.now) (sym c.of-in_default.ensures) (no_parts c.args.self.now.codec.now c.args.self.now.link c.args.self.now.by_fx c.args.self.now.body.now c.node.result.now c.args.self.now.item c.node.ensures c.node.result.now refl c.in_default.not-Extended) }
