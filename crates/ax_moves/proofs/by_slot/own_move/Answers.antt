use Rattle.std.proofs.Common.{arith}
use Rattle.ax_moves.proofs.SubitemSteps.{place_there, stays_as}
use Rattle.ax_moves.proofs.by_slot.own_move.Goals as goal

pub returns-clause-own : goal.returns-clause-own
returns-clause-own c =
    let moves = c.args.moves.now in
    let slot = c.args.slot in
    let one = c.index-moves-place.result in
    let found = place_there moves slot c.place_of-place.result c.place_of-place.ensures.place (omega (arith, c.if-place-eq0.false)) one c.index-moves-place.is (omega (arith, c.if-place-eq0.false, c.place_of-place.ensures.within)) in
    record { found = stays_as moves slot one found (omega (arith, c.if-one-slot.false)); some = omega (arith, c.if-link-eq0.false) }
