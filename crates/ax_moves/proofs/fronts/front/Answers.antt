use Rattle.std.proofs.Common.{arith, inr}
use Rattle.ax_moves.proofs.ItemParts.{front_next, front_past}
use Rattle.ax_moves.proofs.fronts.front.Goals as goal

pub returns-then-octets-end : goal.returns-then-octets-end
returns-then-octets-end c =
    inr (front_past c.args.nodes.now c.args.links.now c.args.count c.args.octets c.loop-index.index c.loop-index.end c.loop-index.invariant (omega (arith, c.loop-index-test.true)) (omega (arith, c.if-count-links.false))
    c.part_octets-size.result c.part_octets-size.ensures (omega (arith, c.if-octets-end.true)))

pub loop-index-preserved : goal.loop-index-preserved
loop-index-preserved c =
    front_next c.args.nodes.now c.args.links.now c.args.count c.args.octets c.loop-index.index c.loop-index.end c.loop-index.invariant (omega (arith, c.loop-index-test.true)) (omega (arith, c.if-count-links.false))
    c.part_octets-size.result c.part_octets-size.ensures (omega (arith, c.if-octets-end.false))
