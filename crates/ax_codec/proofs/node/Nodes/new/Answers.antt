use Rattle.std.proofs.Common.{rules}
use Rattle.ax_codec.proofs.ExtentSteps.{extents_none}
use Rattle.ax_codec.proofs.node.Nodes.new.Goals as goal

pub invariant_of-result : goal.invariant_of-result
invariant_of-result c = (search rules, search rules, c.new-3.ensures.rows c.new-2.result.items, search rules, extents_none _ _ (search rules))
