use Rattle.std.proofs.Common.{◌-◌, arith}
use Rattle.ax_relation.specs.PlainMoves.{moves_tree}
use Rattle.ax_relation.specs.declared.moves.Move.{out-Move}
use Rattle.ax_moves.proofs.SubitemSteps.{link_within}
use Rattle.ax_migrate_views.proofs.kept.moving_octets.Goals as goal

pub offset_bounds-nodes-link : goal.offset_bounds-nodes-link
offset_bounds-nodes-link c = omega (arith, c.in-Some.ensures.own.some)

pub bounds-nodes-link : goal.bounds-nodes-link
bounds-nodes-link c = omega (arith, c.in-Some.ensures.own.some, link_within _ c.args.links.now (c.args.slot - 1) c.requires.links)

pub returns-in-Extended : goal.returns-in-Extended
returns-in-Extended c some = (
  c.in-Some.ensures.ordered,
  record {
    parts = (out-Move c.in-Some.one.now).parts;
    below = moves_tree (out-Move c.in-Some.one.now).below;
    own = c.in-Some.ensures.own;
    node = c.index-nodes-link.result;
    at = c.index-nodes-link.is;
    last = c.in-Extended.last;
    part_links = c.in-Extended.parts;
    is = c.in-Extended.is;
    few = omega (arith, c.saturating_add.ensures);
  },
)
