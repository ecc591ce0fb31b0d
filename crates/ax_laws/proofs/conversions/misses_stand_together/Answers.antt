use Rattle.ax_laws.proofs.KeyFates.{block_misses_together}
use Rattle.ax_laws.proofs.conversions.misses_stand_together.Goals as goal

pub returns : goal.returns
returns c = block_misses_together
