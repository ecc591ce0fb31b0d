use Rattle.ax_format.specs.Plain.{value_tree}
use Rattle.ax_text.proofs.ListedRecords.{no_item}
use Rattle.ax_text.proofs.records.list_item.Goals as goal

pub returns-in_default : goal.returns-in_default
returns-in_default c = no_item c.args.spec.now c.args.entry.now.slot (value_tree c.args.entry.now.value) c.args.path.now c.args.lister.now.out.octets c.in_default.ensures
