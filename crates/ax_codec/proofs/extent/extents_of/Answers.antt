use Rattle.std.proofs.Common.{◌≡◌, ◌+◌, ◌∙◌, get_or, length, length-append, ap, arith, sym, subst}
use Rattle.ax_codec.proofs.ExtentSteps.{node_right, extents_more}
use Rattle.ax_codec.proofs.extent.extents_of.Goals as goal

pub extent_of-requires-clause-node : goal.extent_of-requires-clause-node
extent_of-requires-clause-node c = node_right c.args.nodes.now c.loop-index.index c.index-nodes-index.result c.requires.table c.loop-index-test.true c.index-nodes-index.is

pub loop-index-preserved : goal.loop-index-preserved
loop-index-preserved c =
    let inv = c.loop-index.invariant in
    let one = c.index-nodes-index.result in
    let here = subst (λ k. one ≡ get_or c.args.nodes.now k one) (sym inv.count) c.index-nodes-index.is in
    record {
      extents = extents_more c.args.nodes.now c.loop-index.made.items c.push.new.self.items one c.extent_of.result c.requires.table inv.extents (omega (arith, inv.count, c.loop-index-test.true)) here c.extent_of.ensures c.in_ok-push.ensures.items;
      count = ap length c.in_ok-push.ensures.items ∙ length-append c.loop-index.made.items _ ∙ ap (λ n. n + 1) inv.count;
    }
