use Rattle.ax_format.specs.Plain.{value_tree}
use Rattle.ax_text_form.proofs.RecordWays.{no_item}
use Rattle.ax_text_form.proofs.printer.TreePrinter.item.Goals as goal

pub returns-in_default : goal.returns-in_default
returns-in_default c = no_item c.args.spec.now c.args.entry.now.slot (value_tree c.args.entry.now.value) c.args.self.now.out.items c.in_default.ensures
