use Rattle.ax_moves.proofs.KeptSlots.{KeptBelow}
use Rattle.ax_moves.proofs.by_slot.kept_slots.Given as goal

abbrev pub invariant-loop-slot : goal.invariant-loop-slot
invariant-loop-slot l = KeptBelow l.moves l.slot l.kept
