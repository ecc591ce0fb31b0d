use Rattle.std.proofs.Common.{◌∙◌, ap}
use Rattle.ax_format.specs.Plain.{spec_tree}
use Rattle.ax_app.specs.Rows.{check_text}
use Rattle.ax_app.proofs.Commands.{same_text}
use Rattle.ax_app.proofs.tasks.check.Goals as goal

pub returns : goal.returns
returns g c = same_text 0 _ _ _ c.write_out.result (c.deref.ensures.value ∙ c.in_ok-text.ensures ∙ ap (λ spec. check_text (spec_tree spec)) c.spec.ensures.spec) c.write_out.ensures
