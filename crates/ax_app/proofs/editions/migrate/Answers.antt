use Rattle.std.proofs.Common.{refl}
use Rattle.ax_migration.specs.Commands.{migrate_command}
use Rattle.ax_app.proofs.Commands.{stopped_early}
use Rattle.ax_app.proofs.TwoEditions.{editions_prepared}
use Rattle.ax_app.proofs.editions.migrate.Goals as goal

pub returns : goal.returns
returns g c = editions_prepared migrate_command c.args.old.now c.args.new.now _ _ c.migrate_blocks.result c.in_ok-relation.ensures.same_category c.migrate_blocks.ensures

pub returns-in_err-relation : goal.returns-in_err-relation
returns-in_err-relation g c =
    stopped_early _ _ _ c.from_residual.result c.in_err-relation.field-0.0 c.from_residual.ensures.1 (c.in_err-relation.ensures.stopped migrate_command)
    (record { untouched = record { left = refl; taken = refl }; out = refl; report = refl; source_quiet = refl; out_quiet = refl; report_quiet = refl })
