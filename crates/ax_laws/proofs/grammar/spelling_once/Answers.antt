use Rattle.ax_grammar.proofs.TokenTexts.{spelling_once}
use Rattle.ax_laws.proofs.grammar.spelling_once.Goals as goal

pub returns : goal.returns
returns c = spelling_once
