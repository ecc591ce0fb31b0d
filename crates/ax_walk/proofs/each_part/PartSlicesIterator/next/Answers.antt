use Rattle.ax_codec.specs.Meaning.{meanings, linked_parts}
use Rattle.ax_walk.proofs.ItemPieces.{parts_ended}
use Rattle.ax_walk.proofs.ItemSteps.{empty_is}
use Rattle.ax_walk.specs.Pieces.{part_sizes}
use Rattle.ax_walk.proofs.each_part.PartSlicesIterator.next.Goals as goal

pub returns-then-is_empty-clause-steps : goal.returns-then-is_empty-clause-steps
returns-then-is_empty-clause-steps c =
    let none = parts_ended (part_sizes c.args.self.now.last (linked_parts (meanings c.args.self.now.codec.now.nodes) c.args.self.now.links.now)) c.args.self.now.left.now (empty_is c.args.self.now.left.now c.is_empty.result c.is_empty.ensures c.if-is_empty.true) in (none, none)
