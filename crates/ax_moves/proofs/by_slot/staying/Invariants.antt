use Rattle.ax_moves.specs.BySlot.{StayInSlots}
use Rattle.ax_moves.proofs.by_slot.staying.Given as goal

abbrev pub invariant-loop-slot : goal.invariant-loop-slot
invariant-loop-slot l = StayInSlots l.nodes l.links l.moves l.slot l.stays.items
