use Rattle.std.proofs.Common.{◌-◌, length}
use Rattle.ax_codec.specs.Meaning.{meanings, linked_slots}
use Rattle.ax_walk.proofs.Compounds.{slots_bounds}
use Rattle.ax_walk.proofs.Leading.{if_none}
use Rattle.ax_walk.proofs.MarkedSteps.{next_marked, marks_next, marks_last, marks_failed, within_at}
use Rattle.ax_walk.proofs.octets.walk_items.Goals as goal

pub bounds-slots-slot : goal.bounds-slots-slot
bounds-slots-slot c =
    (next_marked c.args.slots.table.nodes.now c.args.slots.links.now c.loop-slot.left c.take_first.new.self _ c.in-Some.slot (slots_bounds c.args.slots.table.nodes.now c.args.slots.links.now c.args.slots.slots.bounds) c.loop-slot.invariant.marked.clear c.loop-slot.invariant.marked.are_bits c.in-Some.ensures.some c.in-Some.ensures.marks).within

pub walk_item-requires-clause-link : goal.walk_item-requires-clause-link
walk_item-requires-clause-link c =
    let n = next_marked c.args.slots.table.nodes.now c.args.slots.links.now c.loop-slot.left c.take_first.new.self _ c.in-Some.slot (slots_bounds c.args.slots.table.nodes.now c.args.slots.links.now c.args.slots.slots.bounds) c.loop-slot.invariant.marked.clear c.loop-slot.invariant.marked.are_bits c.in-Some.ensures.some c.in-Some.ensures.marks in
    (n.some, within_at (length c.args.slots.table.nodes.now) c.args.slots.links.now (c.in-Some.slot - 1) 0 c.args.slots.slots.within n.within)

pub walk_item-requires-clause-bounds : goal.walk_item-requires-clause-bounds
walk_item-requires-clause-bounds c =
    let n = next_marked c.args.slots.table.nodes.now c.args.slots.links.now c.loop-slot.left c.take_first.new.self _ c.in-Some.slot (slots_bounds c.args.slots.table.nodes.now c.args.slots.links.now c.args.slots.slots.bounds) c.loop-slot.invariant.marked.clear c.loop-slot.invariant.marked.are_bits c.in-Some.ensures.some c.in-Some.ensures.marks in n.bounds

pub returns-in_err-here-clause-fault : goal.returns-in_err-here-clause-fault
returns-in_err-here-clause-fault c =
    if_none c.from_residual.result (marks_failed c.args.slots.table.nodes.now c.args.slots.links.now c.args.marked c.loop-slot.left c.take_first.new.self c.args.start.body.now c.in-Some.slot c.args.start.at c.loop-slot.here c.loop-slot.notes.least c.loop-slot.invariant.marked (next_marked c.args.slots.table.nodes.now c.args.slots.links.now c.loop-slot.left c.take_first.new.self _ c.in-Some.slot (slots_bounds c.args.slots.table.nodes.now c.args.slots.links.now c.args.slots.slots.bounds) c.loop-slot.invariant.marked.clear c.loop-slot.invariant.marked.are_bits c.in-Some.ensures.some c.in-Some.ensures.marks) c.walk_item.new.notes.fault c.in_err-here.ensures.fault)

pub loop-slot-preserved : goal.loop-slot-preserved
loop-slot-preserved c =
    record {
      marked = marks_next c.args.slots.table.nodes.now c.args.slots.links.now c.args.marked c.loop-slot.left c.take_first.new.self c.args.start.body.now c.in-Some.slot c.args.start.at c.loop-slot.here c.loop-slot.notes.least c.loop-slot.invariant.marked (next_marked c.args.slots.table.nodes.now c.args.slots.links.now c.loop-slot.left c.take_first.new.self _ c.in-Some.slot (slots_bounds c.args.slots.table.nodes.now c.args.slots.links.now c.args.slots.slots.bounds) c.loop-slot.invariant.marked.clear c.loop-slot.invariant.marked.are_bits c.in-Some.ensures.some c.in-Some.ensures.marks) c.in_ok-here.here c.walk_item.new.notes.least c.walk_item.ensures.falls c.in_ok-here.ensures.end;
      falls = λ t. c.loop-slot.invariant.falls (c.walk_item.ensures.falls t);
    }

pub returns-clause-end : goal.returns-clause-end
returns-clause-end c =
    marks_last (linked_slots (meanings c.args.slots.table.nodes.now) c.args.slots.links.now) c.args.marked c.loop-slot.left c.args.start.body.now c.args.start.at c.loop-slot.here c.loop-slot.notes.least c.loop-slot.invariant.marked c.in_default.ensures.none

pub returns-in_err-here-clause-falls : goal.returns-in_err-here-clause-falls
returns-in_err-here-clause-falls c = λ h. c.loop-slot.invariant.falls (c.walk_item.ensures.falls h)
