use Rattle.ax_salvage.proofs.OneSalvage.{all_counted, one_verdict, written_or_reported}
use Rattle.ax_laws.proofs.salvage.each_block_is_written_or_reported.Goals as goal

pub returns-clause-verdict : goal.returns-clause-verdict
returns-clause-verdict c = one_verdict

pub returns-clause-once : goal.returns-clause-once
returns-clause-once c = written_or_reported

pub returns-clause-counted : goal.returns-clause-counted
returns-clause-counted c = all_counted
