use Rattle.ax_tokens.proofs.Printed.{printed_text, printed_line}
use Rattle.ax_laws.proofs.tokens.printed_tokens.Goals as goal

pub returns : goal.returns
returns c = record { text = printed_text; line = printed_line }
