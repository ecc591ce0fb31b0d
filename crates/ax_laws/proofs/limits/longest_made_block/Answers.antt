use Rattle.ax_laws.proofs.MadeBlocks.{whole, replaced}
use Rattle.ax_laws.proofs.limits.longest_made_block.Goals as goal

pub returns : goal.returns
returns c = record { whole = whole; replaced = replaced }
