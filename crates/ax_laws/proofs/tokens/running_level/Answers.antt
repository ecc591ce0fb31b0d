use Rattle.ax_tokens.proofs.Levels.{within_keeps, keeps_within}
use Rattle.ax_laws.proofs.tokens.running_level.Goals as goal

pub returns : goal.returns
returns c = λ limit tokens. (within_keeps limit tokens, keeps_within limit tokens)
