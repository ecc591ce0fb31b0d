use Rattle.std.proofs.Common.{IsTrue, arith}
use Rattle.ax_relation.specs.PlainMoves.{moves_tree}
use Rattle.ax_moves.proofs.SubitemSteps.{leave_next, none_leave, remain_next}
use Rattle.ax_moves.specs.BySlot.{ascends}
use Rattle.ax_moves.specs.Subitems.{RemainsIn}
use Rattle.ax_moves.proofs.subitems.leaving.Goals as goal

pub loop-slot-init : goal.loop-slot-init
loop-slot-init c = none_leave (λ s. IsTrue (ascends 1 (moves_tree c.args.moves.now)) × RemainsIn c.args.nodes.now c.args.links.now (moves_tree c.args.moves.now) s) c.empty-leaving.result c.empty-leaving.ensures

pub loop-slot-preserved-then-remains : goal.loop-slot-preserved-then-remains
loop-slot-preserved-then-remains c =
    let own = c.remains.ensures c.if-remains.true in
    remain_next (λ s. IsTrue (ascends 1 (moves_tree c.args.moves.now)) × RemainsIn c.args.nodes.now c.args.links.now (moves_tree c.args.moves.now) s) c.loop-slot.slot c.loop-slot.leaving c.loop-slot.invariant (c.are_ordered-ordered.ensures own.0, own.1)

pub loop-slot-preserved : goal.loop-slot-preserved
loop-slot-preserved c = leave_next (λ s. IsTrue (ascends 1 (moves_tree c.args.moves.now)) × RemainsIn c.args.nodes.now c.args.links.now (moves_tree c.args.moves.now) s) c.loop-slot.slot c.loop-slot.leaving c.mark.new.self (omega arith) (omega arith) c.loop-slot.invariant c.mark.ensures
