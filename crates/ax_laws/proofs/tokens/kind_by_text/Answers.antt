use Rattle.ax_tokens.proofs.Once.{kind_by_text}
use Rattle.ax_laws.proofs.tokens.kind_by_text.Goals as goal

pub returns : goal.returns
returns c = kind_by_text
