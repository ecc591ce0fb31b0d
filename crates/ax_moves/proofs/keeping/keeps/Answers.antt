use Rattle.ax_relation.specs.PlainMoves.{moves_tree}
use Rattle.ax_moves.proofs.KeepingSteps.{kind_stays, leaf_stays}
use Rattle.ax_walk.proofs.NodeKinds.{compound_links}
use Rattle.ax_moves.proofs.keeping.keeps.Goals as goal

pub keeps_all-requires-clause-links : goal.keeps_all-requires-clause-links
keeps_all-requires-clause-links c =
    compound_links c.args.nodes.now c.args.link c.index-nodes-link.result c.requires.table c.requires.link.0 c.requires.link.1 c.index-nodes-link.is c.in-Compound.mask c.in-Compound.slots c.as_slice.result.now c.in-Compound.is c.as_slice.ensures.members

pub returns-in-Compound : goal.returns-in-Compound
returns-in-Compound c sure =
    kind_stays c.args.nodes.now c.args.link c.index-nodes-link.result c.requires.table c.requires.link.0 c.requires.link.1 c.index-nodes-link.is (moves_tree c.args.moves.now) c.in-Compound.mask c.in-Compound.slots c.as_slice.result.now c.in-Compound.is c.as_slice.ensures.members (c.keeps_all.ensures sure) c.args.count

pub returns-then-is_leaf : goal.returns-then-is_leaf
returns-then-is_leaf c sure = leaf_stays c.args.count c.args.nodes.now c.args.link (moves_tree c.args.moves.now) (c.is_leaf.ensures c.if-is_leaf.true)
