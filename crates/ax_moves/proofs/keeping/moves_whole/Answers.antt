use Rattle.std.proofs.Common.{◌∙◌, ap, arith, refl, length}
use Rattle.std.proofs.lemmas.Bool.{leb-true}
use Rattle.ax_moves.proofs.ItemParts.{all_stay, few_stay}
use Rattle.ax_moves.proofs.KeepingSteps.{leaf_canon_by}
use Rattle.ax_moves.proofs.keeping.moves_whole.Goals as goal

pub returns-in_default : goal.returns-in_default
returns-in_default c sure ms = leaf_canon_by c.args.found.now.item c.node.result.now c.node.ensures c.args.count ms c.requires.whole c.in_default.not-Compound c.in_default.not-Extended ∙ c.args.found.now.canonical c.if-not-found.false

pub returns-then-count : goal.returns-then-count
returns-then-count c sure ms =
    all_stay c.args.found.now.item c.node.result.now c.node.ensures c.in-Extended.last c.in-Extended.parts c.in-Extended.parts c.in-Extended.is refl c.args.count ms (omega (arith, leb-true c.count.result c.args.count sure, c.count.ensures))

pub returns-else-count : goal.returns-else-count
returns-else-count c sure ms =
    few_stay c.args.found.now.item c.node.result.now c.node.ensures c.in-Extended.last c.in-Extended.parts c.in-Extended.parts c.in-Extended.is refl c.args.count ms
    (omega (arith, leb-true (length c.octets.result.now) c.args.count sure, ap length c.octets.ensures.body))
