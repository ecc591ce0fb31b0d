use Rattle.std.proofs.Common.{◌-◌, arith}
use Rattle.ax_relation.specs.PlainMoves.{move_tree, moves_tree}
use Rattle.ax_moves.proofs.PlacesThere.{at_is, at_past, next_marks, past_found, there_found}
use Rattle.ax_moves.specs.Wholes.{whole_entries}
use Rattle.ax_moves.proofs.there.slots_there.Goals as goal

pub loop-place-preserved-then-index-moves : goal.loop-place-preserved-then-index-moves
loop-place-preserved-then-index-moves c =
    let ms = moves_tree c.args.moves.now in
    let es = whole_entries c.args.whole.now in
    next_marks _ _ c.in-Some.place ms es _ _ _ c.in-Some.ensures.some
    (there_found c.in-Some.place ms (move_tree c.index-moves-index.result) es _ _ (at_is c.args.moves.now (c.in-Some.place - 1) c.index-moves-index.result (omega (arith, c.if-index-moves.true)) c.index-moves-index.is) c.add_moved.ensures) c.loop-place.invariant

pub loop-place-preserved : goal.loop-place-preserved
loop-place-preserved c =
    let ms = moves_tree c.args.moves.now in
    let es = whole_entries c.args.whole.now in
    next_marks _ _ c.in-Some.place ms es _ _ _ c.in-Some.ensures.some
    (past_found c.in-Some.place ms es _ (at_past c.args.moves.now (c.in-Some.place - 1) (omega (arith, c.if-index-moves.false)))) c.loop-place.invariant
