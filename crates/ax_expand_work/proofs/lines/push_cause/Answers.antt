use Rattle.std.proofs.Common.{◌++◌, ◌∙◌, ap, codes}
use Rattle.ax_expand_work.proofs.Appended.{on_ok}
use Rattle.ax_expand_work.proofs.lines.push_cause.Goals as goal

pub returns : goal.returns
returns c = on_ok c.text3.result _ _ (λ e. e ∙ ap (λ t. c.args.lines.now.octets ++ (codes " " ++ (t ++ codes "\n"))) c.cause_text.ensures) c.text3.ensures.appended
