use Rattle.std.proofs.Common.{rules, arith}
use Rattle.std.proofs.lemmas.Grind.{common_steps}
use Rattle.ax_codec.proofs.ExtentSteps.{extents_none}
use Rattle.ax_codec.proofs.node.Nodes.push.Goals as goal

pub invariant_of-self : goal.invariant_of-self
invariant_of-self c = (search rules, search rules, c.clear.ensures c.push.new.self.items, search rules, extents_none _ _ (search rules))

pub invariant_of-self-then-is_err : goal.invariant_of-self-then-is_err
invariant_of-self-then-is_err c = (search rules, grind (arith, common_steps), c.clear.ensures c.pop.new.self.items, search rules, extents_none _ _ (search rules))

pub invariant_of-self-else-is_err : goal.invariant_of-self-else-is_err
invariant_of-self-else-is_err c = (search rules, grind (arith, common_steps), c.clear.ensures c.push.new.self.items, search rules, extents_none _ _ (search rules))
