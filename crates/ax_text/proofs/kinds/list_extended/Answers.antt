use Rattle.ax_text_form.proofs.Pieces.{last_put}
use Rattle.ax_text.proofs.ListedValues.{extended_put}
use Rattle.ax_text.proofs.kinds.list_extended.Goals as goal

pub returns : goal.returns
returns c = last_put c.list_parts.result c.list_parts.ensures (λ h. extended_put c.args.path.now c.args.parts.now c.args.lists.now c.count.result _ _ _ c.count.ensures c.in_ok-list_count.ensures h)
