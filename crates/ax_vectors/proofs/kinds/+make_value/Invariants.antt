use Rattle.ax_format.specs.Plain.{kind_tree, slot_tree, slots_tree}
use Rattle.ax_vectors.proofs.Left.{Left}
use Rattle.ax_vectors.proofs.SlotDraws.{ValuesLeft}
use Rattle.ax_vectors.specs.Made.{kind_made, values_made, makers}
use Rattle.ax_vectors.specs.Making.{times}
use Rattle.ax_vectors.proofs.kinds.+make_value.Given as goal

abbrev pub invariant-make_each-loop-left : goal.invariant-make_each-loop-left
invariant-make_each-loop-left l = Left (times l.count (kind_made l.around (kind_tree l.kind))) (times l.left (kind_made l.around (kind_tree l.kind))) l.fn.into l.into l.fn.draws l.draws

abbrev pub decreases-make_each-loop-left : goal.decreases-make_each-loop-left
decreases-make_each-loop-left l = l.left

abbrev pub invariant-make_marked-loop-slot : goal.invariant-make_marked-loop-slot
invariant-make_marked-loop-slot l =
    ValuesLeft slot_tree l.around (values_made (makers l.around (slots_tree l.slots)) l.marks) l.slot-iterator.a.rest.now l.slot-iterator.b.rest.now l.fn.into l.into l.fn.draws l.draws
