use Rattle.std.proofs.Common.{map}
use Rattle.ax_format.specs.Plain.{item_tree}
use Rattle.ax_format.specs.Specification.{uap_slot}
use Rattle.ax_vectors.proofs.SlotDraws.{SlotMarks}
use Rattle.ax_vectors.proofs.blocks.draw_marks.Given as goal

abbrev pub invariant-loop-slot : goal.invariant-loop-slot
invariant-loop-slot l = SlotMarks (uap_slot (map item_tree l.spec.items)) l.spec.uap l.slot-index l.marks.items l.fn.draws l.draws
