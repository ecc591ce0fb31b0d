use Rattle.std.proofs.Common.{subst}
use Rattle.ax_migrate_views.proofs.Takings.{lines_never}
use Rattle.ax_walk.specs.Views.{FailsThere}
use Rattle.ax_migrate_views.proofs.block.report_again.Goals as goal

pub returns-in-Err : goal.returns-in-Err
returns-in-Err g c =
    lines_never c.args.migrator.now c.args.block.raw.now.body.now c.args.block.number c.in-Err.field-0 _ _ _ _ _ c.args.migrator.now.editions (subst (λ codec. FailsThere codec c.args.block.raw.now.body.now c.in-Err.field-0) c.old.ensures c.in-Err.ensures.fault)
