use Rattle.ax_grammar.proofs.TokenTexts.{printed_are_tokens, printed_spells}
use Rattle.ax_laws.proofs.grammar.printed_spec_read_back.Goals as goal

pub returns : goal.returns
returns c = record { tokens = printed_are_tokens; spells = printed_spells }
