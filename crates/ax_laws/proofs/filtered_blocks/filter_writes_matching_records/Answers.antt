use Rattle.ax_laws.proofs.FilteredBlocks.{written, reported}
use Rattle.ax_laws.proofs.filtered_blocks.filter_writes_matching_records.Goals as goal

pub returns-clause-written : goal.returns-clause-written
returns-clause-written c = written

pub returns-clause-reported : goal.returns-clause-reported
returns-clause-reported c = reported
