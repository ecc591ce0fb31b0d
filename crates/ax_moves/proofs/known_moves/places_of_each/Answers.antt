use Rattle.std.proofs.Common.{arith, refl}
use Rattle.ax_moves.proofs.KnowingSteps.{finds_each}
use Rattle.ax_moves.proofs.known_moves.places_of_each.Goals as goal

pub returns : goal.returns
returns c = finds_each c.args.moves.now c.in_ok-few_places.field-0.items (omega (arith, c.if-moves-gt126.false)) c.in_ok-few_places.ensures (c.if-not-are_first.ensures refl)
