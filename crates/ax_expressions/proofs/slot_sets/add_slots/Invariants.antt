use Rattle.std.proofs.Common.{length}
use Rattle.ax_fspec.specs.Marks.{slots_of}
use Rattle.ax_expressions.proofs.SlotSets.{Gathered}
use Rattle.ax_expressions.proofs.slot_sets.add_slots.Given as goal

abbrev pub invariant-loop-slot : goal.invariant-loop-slot
invariant-loop-slot l = Gathered l.fn.asked l.more l.asked l.left

abbrev pub decreases-loop-slot : goal.decreases-loop-slot
decreases-loop-slot l = length (slots_of l.left)
