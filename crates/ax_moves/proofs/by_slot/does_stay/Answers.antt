use Rattle.std.proofs.Common.{◌-◌, get_or, ap, arith, refl, ◌∙◌}
use Rattle.ax_relation.specs.PlainMoves.{move_tree, moves_tree}
use Rattle.ax_moves.proofs.MovesBySlot.{copied_by, found_from, move_there, move_within}
use Rattle.ax_moves.proofs.Slots.{table_kind}
use Rattle.ax_moves.specs.BySlot.{found_canon}
use Rattle.ax_moves.specs.Wholes.{slots_in}
use Rattle.ax_bits.specs.Bits.{bits}
use Rattle.ax_format.proofs.CanonSpells.{spells_shape}
use Rattle.ax_format.specs.Canonical.{canon}
use Rattle.ax_codec.specs.Table.{kind_at, record_kind_at}
use Rattle.ax_walk.proofs.Spelled.{value_spelled}
use Rattle.ax_walk.specs.Values.{value_in}
use Rattle.ax_moves.proofs.by_slot.does_stay.Goals as goal

pub offset_bounds-moves-place : goal.offset_bounds-moves-place
offset_bounds-moves-place c = omega (arith, move_within c.args.moves.now c.args.places.now c.args.slot _ c.requires.places c.requires.slot refl (omega (arith, c.if-place-eq0.false)), c.requires.few)

pub bounds-moves-place : goal.bounds-moves-place
bounds-moves-place c = move_within c.args.moves.now c.args.places.now c.args.slot _ c.requires.places c.requires.slot refl (omega (arith, c.if-place-eq0.false))

pub returns-then-link-gt0 : goal.returns-then-link-gt0
returns-then-link-gt0 c sure es octets some bounds one there =
    let ns = c.args.nodes.now in
    let links = c.args.links.now in
    let slot = c.args.slot in
    let link = get_or links (slot - 1) 0 in
    let k = kind_at ns link in
    let move = c.index-moves-place.result in
    let ss = slots_in (record_kind_at ns links) in
    let found = move_there c.args.moves.now c.args.places.now slot _ c.requires.places c.requires.slot refl (omega (arith, c.if-place-eq0.false)) move c.index-moves-place.is in
    let keeps = c.keeps.ensures sure in
    ap (λ o. found_canon o ss es) found
    ∙ copied_by slot move ss es k (value_in k octets) (canon k (value_in k octets)) (found_from slot (moves_tree c.args.moves.now) (move_tree move) found) (table_kind ns links (slot - 1) link refl some) there (keeps (value_in k octets) bounds (spells_shape k (value_in k octets) (bits octets) (value_spelled k octets bounds one)))
