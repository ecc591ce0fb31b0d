use Rattle.std.proofs.Common.{arith}
use Rattle.ax_moves.proofs.ItemParts.{passed_few, passed_first}
use Rattle.ax_walk.specs.Left.{parts_left}
use Rattle.ax_moves.proofs.leading.count_parts.Goals as goal

pub loop-count-init : goal.loop-count-init
loop-count-init c = passed_first c.args.item.now (parts_left c.parts-later.result) c.parts-later.ensures

pub overflow_add-count : goal.overflow_add-count
overflow_add-count c = omega (arith, passed_few c.args.item.now (parts_left c.loop-count.later) (parts_left c.next.new.self) c.in-Some.field-0.now c.loop-count.count c.loop-count.invariant c.in-Some.ensures.steps)
