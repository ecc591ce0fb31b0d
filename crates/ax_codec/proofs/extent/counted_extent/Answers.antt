use Rattle.std.proofs.Common.{refl}
use Rattle.ax_codec.proofs.ExtentSteps.{counted_some, counted_none}
use Rattle.ax_codec.proofs.extent.counted_extent.Goals as goal

pub returns-then-octets-gt0 : goal.returns-then-octets-gt0
returns-then-octets-gt0 c = counted_some c.args.nodes.now c.args.octets.now c.args.counter c.args.inner _ c.requires.table c.requires.octets c.requires.link.0 c.requires.link.1 c.in-One.is refl c.if-octets-gt0.true

pub returns-else-octets-gt0 : goal.returns-else-octets-gt0
returns-else-octets-gt0 c = counted_none c.args.nodes.now c.args.octets.now c.args.counter c.args.inner _ c.requires.table c.requires.octets c.requires.link.0 c.requires.link.1 c.in-One.is refl c.if-octets-gt0.false
