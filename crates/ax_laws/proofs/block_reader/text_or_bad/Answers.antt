use Rattle.ax_laws.proofs.BlocksRead.{text_or_bad}
use Rattle.ax_laws.proofs.block_reader.text_or_bad.Goals as goal

pub returns : goal.returns
returns c = text_or_bad
