use Rattle.std.proofs.Common.{◌-◌, length}
use Rattle.ax_migrate_views.proofs.BodySteps.{BodyMoves}
use Rattle.ax_moves.specs.Lost.{key_paths}
use Rattle.ax_migrate_views.proofs.bodies.lay_body.Given as goal

abbrev pub invariant-loop-here : goal.invariant-loop-here
invariant-loop-here l = BodyMoves l.migrator.codec.now l.migrator.relation.now.moves (key_paths l.lost.keys.now) l.lost.block l.body l.from l.here l.end l.number l.told l.fn.output l.output l.fn.lines l.lines

abbrev pub decreases-loop-here : goal.decreases-loop-here
decreases-loop-here l = length l.body - l.here
