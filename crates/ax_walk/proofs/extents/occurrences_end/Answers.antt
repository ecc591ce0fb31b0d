use Rattle.std.proofs.Common.{arith, refl}
use Rattle.ax_walk.proofs.ExtentWalks.{occurrences_end}
use Rattle.ax_walk.proofs.extents.occurrences_end.Goals as goal

pub returns : goal.returns
returns c = occurrences_end c.args.start.body.now c.args.start.at c.in_ok-count.count c.args.octets _ c.in_ok-count.ensures.count refl (omega (arith, c.if-end-body.false))
