use Rattle.std.proofs.Common.{arith, ap, sym, ◌∙◌}
use Rattle.ax_relation.specs.PlainMoves.{moves_tree}
use Rattle.ax_relation.specs.declared.moves.Move.{Move, out-Move}
use Rattle.ax_moves.proofs.KnowingSteps.{first_next}
use Rattle.ax_moves.specs.BySlot.{place_from}
use Rattle.ax_moves.proofs.known_moves.are_first.Goals as goal

pub loop-index-preserved : goal.loop-index-preserved
loop-index-preserved c =
    let ms = moves_tree c.args.moves.now in
    let place = ap (λ (x : Move). place_from 1 (out-Move x).old ms) c.index-moves-index.is ∙ sym c.place_of.ensures.place ∙ c.if-place_of-index.false in
    first_next c.args.moves.now c.loop-index.index c.index-moves-index.result (omega (arith, c.loop-index-test.true)) c.index-moves-index.is place c.loop-index.invariant
