use Rattle.std.proofs.Common.{◌-◌, get_or, refl}
use Rattle.ax_relation.specs.PlainMoves.{moves_tree}
use Rattle.ax_relation.specs.declared.moves.Move.{out-Move}
use Rattle.ax_moves.proofs.Slots.{table_kind}
use Rattle.ax_moves.proofs.SubitemSteps.{link_within}
use Rattle.ax_codec.specs.Table.{kind_at}
use Rattle.ax_moves.proofs.subitems.remains.Goals as goal

pub is_leaf-requires-clause-link : goal.is_leaf-requires-clause-link
is_leaf-requires-clause-link c = (c.in-Some.ensures.own.some, link_within _ c.args.links.now (c.args.slot - 1) c.requires.links)

pub returns-in-Some : goal.returns-in-Some
returns-in-Some c sure =
    let slot = c.args.slot in
    let links = c.args.links.now in
    let one = c.in-Some.one.now in
    let link = get_or links (slot - 1) 0 in
    let own = c.in-Some.ensures.own in (
      c.in-Some.ensures.ordered,
      record {
        parts = (out-Move one).parts;
        below = moves_tree (out-Move one).below;
        kind = kind_at c.args.nodes.now link;
        found = own.found;
        is = table_kind c.args.nodes.now links (slot - 1) link refl own.some;
        leaf = c.is_leaf.ensures sure;
      },
    )
