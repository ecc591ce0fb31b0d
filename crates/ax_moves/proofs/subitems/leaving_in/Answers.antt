use Rattle.std.proofs.Common.{◌-◌, List, get_or, ap, arith, refl, subst, ◌∙◌}
use Rattle.ax_relation.specs.PlainMoves.{move_tree, moves_tree}
use Rattle.ax_relation.specs.declared.moves.Move.{Move}
use Rattle.ax_moves.proofs.MovesBySlot.{copied_by, found_from, move_there, move_within}
use Rattle.ax_moves.proofs.Slots.{table_kind}
use Rattle.ax_moves.proofs.SubitemSteps.{link_within, subitems_stay}
use Rattle.ax_moves.specs.BySlot.{found_canon}
use Rattle.ax_moves.specs.Subitems.{OthersRemain}
use Rattle.ax_moves.specs.Wholes.{slots_in}
use Rattle.ax_format.specs.Canonical.{canon}
use Rattle.ax_codec.specs.Table.{kind_at, record_kind_at}
use Rattle.ax_walk.proofs.NodeKinds.{compound_links}
use Rattle.ax_walk.specs.Values.{value_in}
use Rattle.ax_moves.proofs.subitems.leaving_in.Goals as goal

pub offset_bounds-moves-place : goal.offset_bounds-moves-place
offset_bounds-moves-place c = omega (arith, move_within c.args.moves.now c.args.places.now c.args.slot _ c.requires.places c.requires.slot refl (omega (arith, c.if-place-eq0.false)), c.requires.few)

pub bounds-moves-place : goal.bounds-moves-place
bounds-moves-place c = move_within c.args.moves.now c.args.places.now c.args.slot _ c.requires.places c.requires.slot refl (omega (arith, c.if-place-eq0.false))

pub leaving-requires-clause-links : goal.leaving-requires-clause-links
leaving-requires-clause-links c =
    let ns = c.args.nodes.now in
    let link = get_or c.args.links.now (c.args.slot - 1) 0 in
    compound_links ns link c.index-nodes-link.result c.requires.table (omega (arith, c.if-link-eq0.false)) (link_within _ c.args.links.now (c.args.slot - 1) c.requires.links) c.index-nodes-link.is c.in-Compound.mask c.in-Compound.slots c.as_slice.result.now c.in-Compound.is c.as_slice.ensures.members

pub returns-in-Compound : goal.returns-in-Compound
returns-in-Compound c es entries octets marks some bounds one is size others apart there =
    let ns = c.args.nodes.now in
    let links = c.args.links.now in
    let slot = c.args.slot in
    let link = get_or links (slot - 1) 0 in
    let k = kind_at ns link in
    let move = c.index-moves-place.result in
    let ss = slots_in (record_kind_at ns links) in
    let found = move_there c.args.moves.now c.args.places.now slot _ c.requires.places c.requires.slot refl (omega (arith, c.if-place-eq0.false)) move c.index-moves-place.is in
    ap (λ o. found_canon o ss es) found
    ∙ copied_by slot move ss es k (value_in k octets) (canon k (value_in k octets)) (found_from slot (moves_tree c.args.moves.now) (move_tree move) found) (table_kind ns links (slot - 1) link refl some) there
    (subitems_stay ns link c.index-nodes-link.result c.requires.table some (link_within _ links (slot - 1) c.requires.links) c.index-nodes-link.is _ c.in-Compound.mask c.in-Compound.slots c.as_slice.result.now c.in-Compound.is c.as_slice.ensures.members _ (subst (λ (l : List Move). OthersRemain ns c.as_slice.result.now (moves_tree l) 127 c.leaving.result) c.as_slice-in-Compound.ensures.members c.leaving.ensures) _ octets marks entries bounds one is size others apart)
