use Rattle.ax_grammar.proofs.Ranges.{numbers_in_range}
use Rattle.ax_laws.proofs.grammar.spelled_is_printable.Goals as goal

pub returns : goal.returns
returns c = numbers_in_range
