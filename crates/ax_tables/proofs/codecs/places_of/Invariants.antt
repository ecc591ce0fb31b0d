use Rattle.ax_tables.specs.Places.{ArePlaces}
use Rattle.ax_tables.proofs.codecs.places_of.Given as goal

abbrev pub invariant-loop-category : goal.invariant-loop-category
invariant-loop-category l = ArePlaces l.codecs l.category l.places.items
