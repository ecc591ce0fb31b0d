use Rattle.std.proofs.Common.{arith, refl}
use Rattle.std.proofs.lemmas.Bool.{leb-true}
use Rattle.ax_moves.proofs.KeepingSteps.{extended_leaf, leaf_kind}
use Rattle.ax_moves.proofs.keeping.is_leaf.Goals as goal

pub returns-in_default : goal.returns-in_default
returns-in_default c sure =
    leaf_kind c.args.count c.args.nodes.now c.args.link c.index-nodes-link.result c.requires.table c.requires.link.0 c.requires.link.1 c.index-nodes-link.is c.index-nodes-link.result refl c.in_default.not-Part c.in_default.not-Compound c.in_default.not-Extended

pub returns-in-Extended : goal.returns-in-Extended
returns-in-Extended c sure =
    extended_leaf c.args.count c.args.nodes.now c.args.link c.index-nodes-link.result c.requires.table c.requires.link.0 c.requires.link.1 c.index-nodes-link.is c.in-Extended.last c.in-Extended.parts c.in-Extended.is (omega (arith, leb-true c.count.result c.args.count sure, c.count.ensures))
