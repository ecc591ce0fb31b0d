use Rattle.ax_relation.specs.PlainMoves.{moves_tree}
use Rattle.ax_relation.specs.declared.moves.Move.{out-Move}
use Rattle.ax_moves.proofs.SubitemSteps.{link_within}
use Rattle.std.proofs.Common.{◌-◌}
use Rattle.ax_migrate_views.proofs.kept.stays_all.Goals as goal

pub returns-in-Some : goal.returns-in-Some
returns-in-Some c sure = (
  c.in-Some.ensures.ordered,
  record { parts = (out-Move c.in-Some.one.now).parts; below = moves_tree (out-Move c.in-Some.one.now).below; own = c.in-Some.ensures.own; whole = c.keeps.ensures sure },
)

pub keeps-requires-clause-link : goal.keeps-requires-clause-link
keeps-requires-clause-link c = (c.in-Some.ensures.own.some, link_within _ c.args.links.now (c.args.slot - 1) c.requires.links)
