use Rattle.ax_laws.proofs.FilesThere.{spec_file_judged, expansion_file_judged}
use Rattle.ax_laws.proofs.load.file_accepted_or_refused.Goals as goal

pub returns-clause-category : goal.returns-clause-category
returns-clause-category c = spec_file_judged

pub returns-clause-expansion : goal.returns-clause-expansion
returns-clause-expansion c = expansion_file_judged
