use Rattle.ax_tokens.proofs.Once.{lexed_or_faulty}
use Rattle.ax_laws.proofs.tokens.lexed_or_faulty.Goals as goal

pub returns : goal.returns
returns c = lexed_or_faulty
