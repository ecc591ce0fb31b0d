use Rattle.ax_tokens.proofs.Once.{tokens_once}
use Rattle.ax_laws.proofs.tokens.tokens_once.Goals as goal

pub returns : goal.returns
returns c = tokens_once
