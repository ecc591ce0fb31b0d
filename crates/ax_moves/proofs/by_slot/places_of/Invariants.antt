use Rattle.ax_moves.specs.BySlot.{ArePlaces}
use Rattle.ax_moves.proofs.by_slot.places_of.Given as goal

abbrev pub invariant-loop-slot : goal.invariant-loop-slot
invariant-loop-slot l = ArePlaces l.moves l.slot l.places.items
