use Rattle.std.proofs.Common.{ap, arith, refl}
use Rattle.ax_relation.specs.declared.moves.Move.{Move, out-Move}
use Rattle.ax_moves.proofs.KeptSlots.{kept_adds, kept_all, kept_none, kept_skips}
use Rattle.ax_moves.proofs.MovesBySlot.{move_there, move_within, no_move}
use Rattle.ax_moves.proofs.by_slot.kept_slots.Goals as goal

pub loop-slot-init : goal.loop-slot-init
loop-slot-init c = kept_none c.args.moves.now c.empty-kept.result c.empty-kept.ensures

pub loop-slot-preserved-then-place-eq0 : goal.loop-slot-preserved-then-place-eq0
loop-slot-preserved-then-place-eq0 c =
    kept_skips c.args.moves.now c.loop-slot.slot c.loop-slot.kept (omega arith) c.loop-slot.invariant
    (no_move c.args.moves.now c.args.places.now c.loop-slot.slot _ c.requires.places (omega arith) refl (omega (arith, c.if-place-eq0.true)))

pub offset_bounds-moves-place : goal.offset_bounds-moves-place
offset_bounds-moves-place c = omega (arith, move_within c.args.moves.now c.args.places.now c.loop-slot.slot _ c.requires.places (omega arith) refl (omega (arith, c.if-place-eq0.false)), c.requires.few)

pub bounds-moves-place : goal.bounds-moves-place
bounds-moves-place c = move_within c.args.moves.now c.args.places.now c.loop-slot.slot _ c.requires.places (omega arith) refl (omega (arith, c.if-place-eq0.false))

pub bounds-moves-place-else-place-eq0 : goal.bounds-moves-place-else-place-eq0
bounds-moves-place-else-place-eq0 c = move_within c.args.moves.now c.args.places.now c.loop-slot.slot _ c.requires.places (omega arith) refl (omega (arith, c.if-place-eq0.false))

pub loop-slot-preserved : goal.loop-slot-preserved
loop-slot-preserved c =
    kept_adds c.args.moves.now c.loop-slot.slot c.loop-slot.kept (omega arith) c.loop-slot.invariant c.index-moves-place.result c.mark.new.self (omega arith)
    (move_there c.args.moves.now c.args.places.now c.loop-slot.slot _ c.requires.places (omega arith) refl (omega (arith, c.if-place-eq0.false)) c.index-moves-place.result c.index-moves-place.is)
    (omega (arith, ap (λ (m : Move). (out-Move m).new) c.index-moves-place.is)) c.mark.ensures

pub returns : goal.returns
returns c = kept_all c.args.moves.now c.loop-slot.slot c.loop-slot.kept (omega arith) c.loop-slot.invariant
