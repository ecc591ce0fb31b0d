use Rattle.ax_format.specs.Plain.{spec_tree}
use Rattle.ax_text_form.proofs.Listables.{record_listable}
use Rattle.ax_text.proofs.listings.list_block.Goals as goal

pub list_records-requires-clause-listable : goal.list_records-requires-clause-listable
list_records-requires-clause-listable c = record_listable (spec_tree c.args.spec.now) c.requires.no_flaw
