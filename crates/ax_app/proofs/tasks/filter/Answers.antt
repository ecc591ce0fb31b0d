use Rattle.std.proofs.Common.{refl, sym, subst}
use Rattle.ax_command.specs.declared.outcome.Refusal.TheVariants.{FilterRefused}
use Rattle.ax_filter.specs.OfCode.{expression}
use Rattle.ax_expressions.specs.Texts.{IsFilterText}
use Rattle.ax_format.specs.Plain.{catalogue_tree}
use Rattle.ax_app.specs.Rows.{IsFilterTask}
use Rattle.ax_app.specs.Tasks.{refuses}
use Rattle.ax_app.proofs.Commands.{stopped_command}
use Rattle.ax_app.proofs.Filters.{filter_ran, filter_refuses}
use Rattle.ax_app.proofs.tasks.filter.Goals as goal

pub returns-in-Ok : goal.returns-in-Ok
returns-in-Ok g c =
    filter_ran c.args.text.now (catalogue_tree c.args.catalogue.now) _ (expression c.in-Ok.filter) _ c.filter_blocks.result
    (subst (λ t. IsFilterText (catalogue_tree c.args.catalogue.now) t (expression c.in-Ok.filter)) c.as_bytes.ensures.value c.in-Ok.ensures.filter) c.in-Ok.ensures.over c.filter_blocks.ensures

pub returns-in-Err-Refused : goal.returns-in-Err-Refused
returns-in-Err-Refused g c =
    stopped_command _ _ _ _ (subst (λ fault. IsFilterTask c.args.text.now (catalogue_tree c.args.catalogue.now) (refuses (FilterRefused fault))) (sym c.in-Err-Refused.fault-is)
    (filter_refuses c.args.text.now _ _ _ _ c.as_bytes.ensures.value c.in-Err-Refused.field-0-is c.in-Err-Refused.ensures.stop))
    (record { untouched = record { left = refl; taken = refl }; out = refl; report = refl; source_quiet = refl; out_quiet = refl; report_quiet = refl })
