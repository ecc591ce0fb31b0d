use Rattle.ax_moves.specs.Subitems.{StayWithout}
use Rattle.ax_moves.proofs.subitems.leaving_slots.Given as goal

abbrev pub invariant-loop-slot : goal.invariant-loop-slot
invariant-loop-slot l = StayWithout l.nodes l.links l.moves l.slot l.leaving.items
