use Rattle.ax_format.specs.Plain.{spec_tree}
use Rattle.ax_listing.proofs.Blocks.{listable}
use Rattle.ax_listing.proofs.block.list_body.Goals as goal

pub show_records-requires-clause-listable : goal.show_records-requires-clause-listable
show_records-requires-clause-listable c = listable (spec_tree c.args.table.now.items) c.requires.no_flaw
