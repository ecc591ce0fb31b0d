use Rattle.std.proofs.Common.{List, IfSome, Vec, Global, ℕ, length, get_or, arith, ap, subst, sym, ◌∙◌}
use Rattle.ax_relation.specs.PlainMoves.{moves_tree}
use Rattle.ax_relation.specs.declared.moves.Move.{Move}
use Rattle.ax_moves.proofs.KnowingSteps.{known_all, known_next, known_of}
use Rattle.ax_moves.specs.KnownMoves.{FindsEach, KnowsBelow}
use Rattle.ax_moves.specs.declared.known_moves.KnownMoves.TheViews.{out-roll-KnownMoves}
use Rattle.ax_moves.proofs.known_moves.+know_each.Goals as goal

pub loop-one-preserved : goal.loop-one-preserved
loop-one-preserved t c =
    let m = c.as_slice-one-items.ensures.members in
    known_next c.args.moves.now c.loop-one.one-index c.one-item.result c.in_ok-know_each.field-0 c.loop-one.below c.push.new.below
    (omega (arith, c.loop-one-test.true, ap length m)) (c.one-item.is ∙ ap (λ ms. get_or ms c.loop-one.one-index c.one-item.result) m)
    (known_of c.one-item.result c.in_ok-know_each.field-0 c.in_ok-know_each.ensures) c.in_ok-push.ensures c.loop-one.invariant

pub returns : goal.returns
returns t c =
    let finds = subst (λ (ms : List Move). IfSome c.in_ok-places.places (λ (places : Vec ℕ Global). FindsEach (moves_tree ms) places.items)) c.as_slice.ensures.members c.in_ok-places.ensures in
    let all = known_all c.args.moves.now c.loop-one.one-index c.loop-one.below (omega (arith, c.loop-one-test.false, ap length c.as_slice-one-items.ensures.members)) c.loop-one.invariant in
    let rolled = sym (out-roll-KnownMoves (record { places = c.in_ok-places.places; below = c.loop-one.below })) in
    (subst (λ r. IfSome r.places (λ (places : Vec ℕ Global). FindsEach (moves_tree c.args.moves.now) places.items)) rolled finds, subst (λ r. KnowsBelow (moves_tree c.args.moves.now) r.below) rolled all)
