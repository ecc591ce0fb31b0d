use Rattle.std.proofs.Common.{arith, rules}
use Rattle.ax_edition.proofs.MoveLists.{slots_step, slots_end}
use Rattle.ax_edition.specs.Index.{found}
use Rattle.ax_edition.proofs.moves.+moves_of.Goals as goal

pub moves_of_slots-loop-slot-preserved : goal.moves_of_slots-loop-slot-preserved
moves_of_slots-loop-slot-preserved t c = (
  omega (arith, c.loop-slot.invariant.0),
  slots_step c.loop-slot.slot-index c.loop-slot.before c.args.new.now (found c.args.old.now) c.slot-item.result _ _ _ c.in_ok-move_slot.ensures c.loop-slot.invariant.1 (search rules) (search rules),
)

pub moves_of_slots-returns : goal.moves_of_slots-returns
moves_of_slots-returns t c = slots_end c.loop-slot.slot-index c.loop-slot.before c.args.new.now (found c.args.old.now) _ _ c.loop-slot.invariant.1 (search rules)
