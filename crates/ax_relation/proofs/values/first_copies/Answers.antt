use Rattle.std.proofs.Common.{rules}
use Rattle.ax_relation.proofs.FirstLists.{firsts_cut, firsts_more, firsts_next, firsts_all}
use Rattle.ax_relation.proofs.values.first_copies.Goals as goal

pub returns-then-count : goal.returns-then-count
returns-then-count c = firsts_cut c.args.count c.loop-values.values-index c.args.lists.now c.loop-values.made c.loop-values.invariant.0 (search rules) (search rules)

pub loop-values-preserved : goal.loop-values-preserved
loop-values-preserved c =
    let more = firsts_next c.loop-values.values-index c.args.lists.now c.values-item.result c.loop-values.made c.push.new.self c.in_ok-copies.field-0 c.loop-values.invariant.0 (search rules) c.in_ok-copies.ensures (search rules) (search rules) in
    (more, firsts_more c.args.count c.loop-values.values-index c.count.result c.args.lists.now c.loop-values.made c.loop-values.invariant.0 (search rules) (search rules) (search rules) c.loop-values.invariant.1)

pub returns : goal.returns
returns c = firsts_all c.args.count c.loop-values.values-index c.args.lists.now c.loop-values.made c.loop-values.invariant.0 c.loop-values.invariant.1 (search rules)
