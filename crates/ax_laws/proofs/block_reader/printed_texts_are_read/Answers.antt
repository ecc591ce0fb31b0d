use Rattle.ax_block_reader.proofs.Once.{printed_texts, printed_tokens}
use Rattle.ax_laws.proofs.block_reader.printed_texts_are_read.Goals as goal

pub returns : goal.returns
returns c = record { texts = printed_texts; tokens = printed_tokens }
