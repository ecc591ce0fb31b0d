use Rattle.ax_text_form.proofs.Pieces.{last_put}
use Rattle.ax_text_form.proofs.KindWays.{part_put}
use Rattle.ax_format.specs.Plain.{part_tree, values_tree}
use Rattle.ax_text_form.proofs.printer.TreePrinter.part.Goals as goal

pub returns : goal.returns
returns c = last_put c.text-3.result c.text-3.ensures (λ h. part_put (part_tree c.args.part.now) (values_tree c.args.values.now) _ _ _ _ _ c.in_ok-text.ensures c.in_ok-text-2.ensures c.in_ok-members.ensures h)
