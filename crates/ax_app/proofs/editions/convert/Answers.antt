use Rattle.std.proofs.Common.{refl}
use Rattle.ax_convert_work.specs.ConvertCommand.{convert_command}
use Rattle.ax_app.proofs.Commands.{stopped_early}
use Rattle.ax_app.proofs.TwoEditions.{editions_taking}
use Rattle.ax_app.proofs.editions.convert.Goals as goal

pub returns : goal.returns
returns g c = editions_taking convert_command c.args.old.now c.args.new.now _ _ c.convert_blocks.result refl c.in_ok-relation.ensures.same_category c.convert_blocks.ensures

pub returns-in_err-relation : goal.returns-in_err-relation
returns-in_err-relation g c =
    stopped_early _ _ _ c.from_residual.result c.in_err-relation.field-0.0 c.from_residual.ensures.1 (c.in_err-relation.ensures.stopped convert_command)
    (record { untouched = record { left = refl; taken = refl }; out = refl; report = refl; source_quiet = refl; out_quiet = refl; report_quiet = refl })
