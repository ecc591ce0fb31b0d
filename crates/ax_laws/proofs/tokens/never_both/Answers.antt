use Rattle.ax_tokens.proofs.Once.{no_bad_byte, none_too_deep}
use Rattle.ax_laws.proofs.tokens.never_both.Goals as goal

pub returns : goal.returns
returns c = record { bad_byte = no_bad_byte; too_deep = none_too_deep }
