use Rattle.std.proofs.Common.{◌∙◌, ap, arith, refl, sym}
use Rattle.ax_moves.proofs.MovesBySlot.{no_move, move_within, move_there}
use Rattle.ax_moves.specs.BySlot.{found_marks}
use Rattle.ax_moves.specs.Wholes.{whole_entries}
use Rattle.ax_moves.proofs.in_order.mark_moved.Goals as goal

pub offset_bounds-moves-place : goal.offset_bounds-moves-place
offset_bounds-moves-place c = omega (arith, move_within c.args.moves.now c.args.places.now c.args.slot _ c.requires.places c.requires.slot refl (omega (arith, c.if-place-gt0.true)), c.requires.few)

pub bounds-moves-place : goal.bounds-moves-place
bounds-moves-place c = move_within c.args.moves.now c.args.places.now c.args.slot _ c.requires.places c.requires.slot refl (omega (arith, c.if-place-gt0.true))

pub returns-then-place-gt0 : goal.returns-then-place-gt0
returns-then-place-gt0 c =
    c.add_moved.ensures ∙ ap (λ o. found_marks o (whole_entries c.args.whole.now) c.args.marked.now)
    (sym (move_there c.args.moves.now c.args.places.now c.args.slot _ c.requires.places c.requires.slot refl (omega (arith, c.if-place-gt0.true)) c.index-moves-place.result c.index-moves-place.is))

pub returns-else-place-gt0 : goal.returns-else-place-gt0
returns-else-place-gt0 c =
    ap (λ o. found_marks o (whole_entries c.args.whole.now) c.args.marked.now) (sym (no_move c.args.moves.now c.args.places.now c.args.slot _ c.requires.places c.requires.slot refl (omega (arith, c.if-place-gt0.false))))
