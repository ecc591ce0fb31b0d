use Rattle.ax_codec.proofs.ExtentSteps.{counted_link}
use Rattle.ax_codec.specs.Meaning.{meanings}
use Rattle.std.proofs.Common.{length}
use Rattle.ax_codec.proofs.extent.extent_of.Goals as goal

pub counted_extent-requires-clause-link : goal.counted_extent-requires-clause-link
counted_extent-requires-clause-link c = counted_link (length c.args.nodes.now) (meanings c.args.nodes.now) c.args.node.now c.in-Counted.counter c.in-Counted.inner c.requires.node c.in-Counted.is
