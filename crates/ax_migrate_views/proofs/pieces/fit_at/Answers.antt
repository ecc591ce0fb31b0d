use Rattle.std.proofs.Common.{◌%◌, arith}
use Rattle.ax_migrate_views.proofs.Keeping.{kept_fit}
use Rattle.ax_migrate_views.proofs.pieces.fit_at.Goals as goal

pub returns-then-kept-gt0 : goal.returns-then-kept-gt0
returns-then-kept-gt0 c =
    kept_fit c.args.migrator.now c.args.view.now.body.now c.args.known.now (c.args.from % 64) c.args.from c.kept_at-kept.result c.requires.known (omega (arith, c.requires.room)) c.kept_at-kept.ensures (omega arith) (omega arith)
