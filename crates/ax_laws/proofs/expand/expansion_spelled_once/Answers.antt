use Rattle.ax_expand.proofs.FileTokens.{spelled_once}
use Rattle.ax_laws.proofs.expand.expansion_spelled_once.Goals as goal

pub returns : goal.returns
returns c = spelled_once
