use Rattle.ax_laws.proofs.TokensRead.{spec_or_bad}
use Rattle.ax_laws.proofs.grammar.spelled_or_bad.Goals as goal

pub returns : goal.returns
returns c = spec_or_bad
