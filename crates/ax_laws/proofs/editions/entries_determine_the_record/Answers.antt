use Rattle.ax_relation.proofs.Once.{named_record_once}
use Rattle.ax_laws.proofs.editions.entries_determine_the_record.Goals as goal

pub returns : goal.returns
returns c = named_record_once
