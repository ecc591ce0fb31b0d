use Rattle.std.proofs.Common.{◌≡◌, ◌∙◌, ap, arith, refl, subst, sym}
use Rattle.std.proofs.lemmas.Bool.{not-false}
use Rattle.ax_bits.specs.Bits.{bits}
use Rattle.ax_relation.specs.PlainMoves.{move_tree, moves_tree}
use Rattle.ax_fspec.specs.Marks.{slots_of}
use Rattle.ax_moves.proofs.LaidRuns.{run_skips, run_extends, run_flushed, run_last, run_enters}
use Rattle.ax_moves.proofs.KnowingSteps.{known_at}
use Rattle.ax_moves.proofs.MovesBySlot.{no_move, move_within, move_there, none_canon, next_canon}
use Rattle.ax_moves.proofs.SubitemSteps.{copied_there}
use Rattle.ax_moves.specs.BySlot.{ArePlaces, StayInSlots, found_canon, run_octets, slots_canon}
use Rattle.ax_moves.specs.KnownMoves.{KnowsBelow}
use Rattle.ax_moves.specs.Octets.{move_canon}
use Rattle.ax_moves.specs.Subitems.{StayWithout}
use Rattle.ax_moves.specs.Wholes.{whole_entries, whole_slots}
use Rattle.ax_moves.proofs.in_order.lay_marked.Goals as goal

pub loop-slot-preserved-in_default-place : goal.loop-slot-preserved-in_default-place
loop-slot-preserved-in_default-place c =
    let w = c.args.whole.now in
    let ms = moves_tree c.args.moves.now in
    run_skips _ _ _ _ _ _ _ _ _ c.loop-slot.invariant _
    (next_canon (slots_of c.loop-slot.left) (slots_of c.take_first.new.self) c.in-Some.slot ms (whole_slots w) (whole_entries w) _ c.in-Some.ensures.some (none_canon c.in-Some.slot ms (whole_slots w) (whole_entries w) (sym c.in_default-place.ensures.value)))

pub loop-slot-preserved-then-place-eq0 : goal.loop-slot-preserved-then-place-eq0
loop-slot-preserved-then-place-eq0 c =
    let w = c.args.whole.now in
    let ms = moves_tree c.args.moves.now in
    run_skips _ _ _ _ _ _ _ _ _ c.loop-slot.invariant _
    (next_canon (slots_of c.loop-slot.left) (slots_of c.take_first.new.self) c.in-Some.slot ms (whole_slots w) (whole_entries w) _ c.in-Some.ensures.some
    (ap (λ o. found_canon o (whole_slots w) (whole_entries w)) (no_move c.args.moves.now c.as_slice-places.result.now c.in-Some.slot _ (subst (ArePlaces c.args.moves.now 127) (sym c.as_slice-places.ensures.value) c.requires.known.places) (omega (arith, c.in-Some.ensures.within.1)) refl (omega (arith, c.if-place-eq0.true)))))

pub offset_bounds-moves-place : goal.offset_bounds-moves-place
offset_bounds-moves-place c =
    omega (arith, move_within c.args.moves.now c.as_slice-places.result.now c.in-Some.slot _ (subst (ArePlaces c.args.moves.now 127) (sym c.as_slice-places.ensures.value) c.requires.known.places) (omega (arith, c.in-Some.ensures.within.1)) refl (omega (arith, c.if-place-eq0.false)), c.requires.few)

pub offset_bounds-below-place : goal.offset_bounds-below-place
offset_bounds-below-place c =
    omega (arith, move_within c.args.moves.now c.as_slice-places.result.now c.in-Some.slot _ (subst (ArePlaces c.args.moves.now 127) (sym c.as_slice-places.ensures.value) c.requires.known.places) (omega (arith, c.in-Some.ensures.within.1)) refl (omega (arith, c.if-place-eq0.false)), c.requires.few)

pub bounds-moves-place : goal.bounds-moves-place
bounds-moves-place c = move_within c.args.moves.now c.as_slice-places.result.now c.in-Some.slot _ (subst (ArePlaces c.args.moves.now 127) (sym c.as_slice-places.ensures.value) c.requires.known.places) (omega (arith, c.in-Some.ensures.within.1)) refl (omega (arith, c.if-place-eq0.false))

pub bounds-below-place : goal.bounds-below-place
bounds-below-place c =
    let knows = subst (KnowsBelow (moves_tree c.args.moves.now)) (sym c.as_slice-below.ensures.members) c.requires.known.by_place.1 in
    (known_at c.args.moves.now c.as_slice-below.result.now _ c.index-moves-place.result knows (move_within c.args.moves.now c.as_slice-places.result.now c.in-Some.slot _ (subst (ArePlaces c.args.moves.now 127) (sym c.as_slice-places.ensures.value) c.requires.known.places) (omega (arith, c.in-Some.ensures.within.1)) refl (omega (arith, c.if-place-eq0.false))) c.index-moves-place.is).0

pub lay_entry-end-requires-clause-known : goal.lay_entry-end-requires-clause-known
lay_entry-end-requires-clause-known c =
    let knows = subst (KnowsBelow (moves_tree c.args.moves.now)) (sym c.as_slice-below.ensures.members) c.requires.known.by_place.1 in
    (known_at c.args.moves.now c.as_slice-below.result.now _ c.index-moves-place.result knows (move_within c.args.moves.now c.as_slice-places.result.now c.in-Some.slot _ (subst (ArePlaces c.args.moves.now 127) (sym c.as_slice-places.ensures.value) c.requires.known.places) (omega (arith, c.in-Some.ensures.within.1)) refl (omega (arith, c.if-place-eq0.false))) c.index-moves-place.is).1
    c.index-below-place.result c.index-below-place.is

pub loop-slot-preserved-then-not-window : goal.loop-slot-preserved-then-not-window
loop-slot-preserved-then-not-window c =
    let w = c.args.whole.now in
    let ms = moves_tree c.args.moves.now in
    let one = c.index-moves-place.result in
    let found = move_there c.args.moves.now c.as_slice-places.result.now c.in-Some.slot _ (subst (ArePlaces c.args.moves.now 127) (sym c.as_slice-places.ensures.value) c.requires.known.places) (omega (arith, c.in-Some.ensures.within.1)) refl (omega (arith, c.if-place-eq0.false)) one c.index-moves-place.is in
    let next = next_canon (slots_of c.loop-slot.left) (slots_of c.take_first.new.self) c.in-Some.slot ms (whole_slots w) (whole_entries w) (move_canon (move_tree one) (whole_slots w) (whole_entries w)) c.in-Some.ensures.some
    (ap (λ o. found_canon o (whole_slots w) (whole_entries w)) found) in
    run_enters _ _ _ _ _ _ _ _ _ _ _ next (run_flushed _ _ _ _ _ _ _ _ _ c.loop-slot.invariant 0 c.lay_run-end.result c.lay_run-end.new.output (omega arith) c.lay_run-end.ensures.laid) c.lay_entry-end.ensures.laid

pub loop-slot-preserved-then-window-stop : goal.loop-slot-preserved-then-window-stop
loop-slot-preserved-then-window-stop c =
    let w = c.args.whole.now in
    let ms = moves_tree c.args.moves.now in
    let there = c.in-Some-place.ensures.there in
    let stays = copied_there w c.args.moves.now c.as_slice-stays.result.now c.as_slice-leaving.result.now c.in-Some.slot c.in-Some-place.window c.index-leaving-slot.result (subst (StayInSlots w.codec.now.nodes w.slots.now c.args.moves.now 127) (sym c.as_slice-stays.ensures.value) c.requires.known.stays)
    (subst (StayWithout w.codec.now.nodes w.slots.now c.args.moves.now 127) (sym c.as_slice-leaving.ensures.value) c.requires.known.leaving) c.index-leaving-slot.is there (sym c.in-Some-place.ensures.value) (not-false _ c.if-not-window.false) (c.is_copied.ensures c.if-not-is_copied.false) in
    let next = next_canon (slots_of c.loop-slot.left) (slots_of c.take_first.new.self) c.in-Some.slot ms (whole_slots w) (whole_entries w) (bits (run_octets c.in-Some-place.window.start c.in-Some-place.window.end w.body.now)) c.in-Some.ensures.some stays in
    run_extends _ _ _ _ _ _ _ _ _
    (run_flushed _ _ _ _ _ _ _ _ _ c.loop-slot.invariant c.in-Some-place.window.start c.lay_run-end-then-window-stop.result c.lay_run-end-then-window-stop.new.output (omega (arith, there.forwards, there.within)) c.lay_run-end-then-window-stop.ensures.laid)
    _ c.in-Some-place.window.end there.forwards there.within next

pub loop-slot-preserved : goal.loop-slot-preserved
loop-slot-preserved c =
    let w = c.args.whole.now in
    let ms = moves_tree c.args.moves.now in
    let there = c.in-Some-place.ensures.there in
    let here : c.in-Some-place.window.start ≡ c.loop-slot.stop = omega (arith, c.if-window-stop.false) in
    let stays = copied_there w c.args.moves.now c.as_slice-stays.result.now c.as_slice-leaving.result.now c.in-Some.slot c.in-Some-place.window c.index-leaving-slot.result (subst (StayInSlots w.codec.now.nodes w.slots.now c.args.moves.now 127) (sym c.as_slice-stays.ensures.value) c.requires.known.stays)
    (subst (StayWithout w.codec.now.nodes w.slots.now c.args.moves.now 127) (sym c.as_slice-leaving.ensures.value) c.requires.known.leaving) c.index-leaving-slot.is there (sym c.in-Some-place.ensures.value) (not-false _ c.if-not-window.false) (c.is_copied.ensures c.if-not-is_copied.false) in
    let next = next_canon (slots_of c.loop-slot.left) (slots_of c.take_first.new.self) c.in-Some.slot ms (whole_slots w) (whole_entries w) (bits (run_octets c.loop-slot.stop c.in-Some-place.window.end w.body.now)) c.in-Some.ensures.some
    (stays ∙ ap (λ n. bits (run_octets n c.in-Some-place.window.end w.body.now)) here) in
    run_extends _ _ _ _ _ _ _ _ _ c.loop-slot.invariant _ c.in-Some-place.window.end (omega (arith, here, there.forwards)) there.within next

pub returns-clause-laid : goal.returns-clause-laid
returns-clause-laid c =
    let w = c.args.whole.now in
    run_last _ _ _ _ _ _ _ _ _ c.loop-slot.invariant c.lay_run.result c.lay_run.new.output (ap (λ x. slots_canon x (moves_tree c.args.moves.now) (whole_slots w) (whole_entries w)) c.in_default.ensures.none) c.lay_run.ensures.laid
