use Rattle.ax_format.specs.Plain.{fixed_tree}
use Rattle.ax_text.proofs.ListedValues.{run_lines}
use Rattle.ax_text_form.proofs.Pieces.{last_put}
use Rattle.ax_text.proofs.kinds.list_by_fx.Goals as goal

pub returns : goal.returns
returns c =
    last_put c.list_run.result c.list_run.ensures (λ h. run_lines c.args.path.now (fixed_tree c.args.fixed.now) c.args.values.now c.count.result c.args.lister.now.out.octets c.list_count.new.lister.out.octets c.list_run.new.lister.out.octets c.count.ensures c.in_ok-list_count.ensures h)
