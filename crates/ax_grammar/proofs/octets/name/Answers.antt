use Rattle.ax_grammar.proofs.SingleTokens.{name_is}
use Rattle.ax_grammar.proofs.octets.name.Goals as goal

pub returns : goal.returns
returns c = name_is c.args.text.now c.of.result c.of.ensures
