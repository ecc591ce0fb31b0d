use Rattle.ax_text_form.proofs.Nesting.{line_tokens, tokens_within}
use Rattle.ax_laws.proofs.text.printed_block_tokens.Goals as goal

pub returns : goal.returns
returns c = record { tokens = line_tokens; within = tokens_within }
