use Rattle.std.proofs.Common.{arith}
use Rattle.ax_relation.specs.PlainMoves.{moves_tree}
use Rattle.ax_moves.proofs.SubitemSteps.{leave_next, none_leave, remain_next}
use Rattle.ax_migrate_views.specs.Kept.{IsKeptSlot}
use Rattle.ax_migrate_views.proofs.kept.leaving_items.Goals as goal

pub loop-slot-init : goal.loop-slot-init
loop-slot-init c = none_leave (IsKeptSlot c.args.nodes.now c.args.links.now (moves_tree c.args.moves.now) c.args.lost.now) c.empty-leaving.result c.empty-leaving.ensures

pub loop-slot-preserved : goal.loop-slot-preserved
loop-slot-preserved c = leave_next (IsKeptSlot c.args.nodes.now c.args.links.now (moves_tree c.args.moves.now) c.args.lost.now) c.loop-slot.slot c.loop-slot.leaving c.mark.new.self (omega arith) (omega arith) c.loop-slot.invariant c.mark.ensures

pub loop-slot-preserved-then-not-is_named : goal.loop-slot-preserved-then-not-is_named
loop-slot-preserved-then-not-is_named c =
    let own = c.stays_all.ensures c.if-stays_all.true in
    remain_next (IsKeptSlot c.args.nodes.now c.args.links.now (moves_tree c.args.moves.now) c.args.lost.now) c.loop-slot.slot c.loop-slot.leaving c.loop-slot.invariant (c.are_ordered-ordered.ensures own.0, own.1, c.is_named.ensures c.if-not-is_named.true)
