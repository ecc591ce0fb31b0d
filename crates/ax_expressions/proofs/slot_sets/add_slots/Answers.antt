use Rattle.ax_expressions.proofs.SlotSets.{gathered_next, gathered_all}
use Rattle.ax_expressions.proofs.slot_sets.add_slots.Goals as goal

pub loop-slot-preserved : goal.loop-slot-preserved
loop-slot-preserved c = gathered_next _ _ _ _ _ _ _ c.in-Some.ensures.within.0 c.in-Some.ensures.within.1 c.mark.ensures c.in-Some.ensures.marks c.loop-slot.invariant

pub returns-clause-apart : goal.returns-clause-apart
returns-clause-apart c = gathered_all _ _ _ _ c.in_default.ensures.none c.loop-slot.invariant
