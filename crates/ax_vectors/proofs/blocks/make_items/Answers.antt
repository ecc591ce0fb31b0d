use Rattle.std.proofs.Common.{map}
use Rattle.ax_format.specs.Plain.{item_tree, spec_tree}
use Rattle.ax_format.specs.Specification.{uap_slot, record_slots}
use Rattle.ax_vectors.proofs.SlotDraws.{slots_next}
use Rattle.ax_vectors.specs.Made.{values_made, makers}
use Rattle.ax_vectors.proofs.blocks.make_items.Goals as goal

pub loop-slot-preserved : goal.loop-slot-preserved
loop-slot-preserved c =
    let steps = c.in-Some.ensures.steps in
    slots_next (uap_slot (map item_tree c.args.spec.now.items)) 0 (values_made (makers 0 (record_slots (spec_tree c.args.spec.now))) c.args.marks.now) c.in-Some.slot.now c.loop-slot.slot-iterator.a.rest.now c.next.new.self.a.rest.now
    c.in-Some.mark.now c.loop-slot.slot-iterator.b.rest.now c.next.new.self.b.rest.now c.args.into.now c.loop-slot.into c.make_item.new.into c.args.draws.now c.loop-slot.draws c.make_item.new.draws
    c.loop-slot.invariant steps.0 steps.1 c.in_ok-make_item.ensures
