use Rattle.ax_words.proofs.Once.{once}
use Rattle.ax_laws.proofs.words.line_once.Goals as goal

pub returns : goal.returns
returns c = once
