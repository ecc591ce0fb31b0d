use Rattle.ax_laws.proofs.ExpansionsRead.{expansion_or_bad}
use Rattle.ax_laws.proofs.expand.expansion_spelled_or_bad.Goals as goal

pub returns : goal.returns
returns c = expansion_or_bad
