use Rattle.ax_format.specs.Plain.{slot_tree}
use Rattle.ax_vectors.proofs.SlotDraws.{SlotMarks}
use Rattle.ax_vectors.proofs.kinds.draw_marks.Given as goal

abbrev pub invariant-loop-slot : goal.invariant-loop-slot
invariant-loop-slot l = SlotMarks slot_tree l.slots l.slot-index l.marks.items l.fn.draws l.draws
