use Rattle.std.proofs.Common.{map}
use Rattle.ax_format.specs.Plain.{item_tree, spec_tree}
use Rattle.ax_format.specs.Specification.{uap_slot, record_slots}
use Rattle.ax_vectors.proofs.SlotDraws.{ValuesLeft}
use Rattle.ax_vectors.specs.Made.{values_made, makers}
use Rattle.ax_vectors.proofs.blocks.make_items.Given as goal

abbrev pub invariant-loop-slot : goal.invariant-loop-slot
invariant-loop-slot l =
    ValuesLeft (uap_slot (map item_tree l.spec.items)) 0 (values_made (makers 0 (record_slots (spec_tree l.spec))) l.marks) l.slot-iterator.a.rest.now l.slot-iterator.b.rest.now l.fn.into l.into l.fn.draws l.draws
