use Rattle.ax_laws.proofs.WordsRead.{line_or_none}
use Rattle.ax_laws.proofs.words.line_or_none.Goals as goal

pub returns : goal.returns
returns c = line_or_none
