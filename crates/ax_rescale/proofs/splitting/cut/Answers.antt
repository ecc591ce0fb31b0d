use Rattle.std.proofs.Common.{arith}
use Rattle.std.proofs.lemmas.Grind.{common_steps}
use Rattle.ax_rescale.proofs.splitting.cut.Goals as goal

pub split_at-requires : goal.split_at-requires
split_at-requires c = grind (arith, common_steps)

pub loop-count-preserved : goal.loop-count-preserved
loop-count-preserved c = grind (arith, common_steps)

pub returns : goal.returns
returns c = grind (arith, common_steps)
