use Rattle.std.proofs.Common.{◌-◌, length, false, refl, sym, subst, rules}
use Rattle.ax_codec.specs.Meaning.{meanings, linked_slots}
use Rattle.ax_walk.proofs.Compounds.{slots_bounds}
use Rattle.ax_walk.proofs.Leading.{if_none}
use Rattle.ax_walk.proofs.MarkedSteps.{next_marked, marks_first, marks_next, marks_failed, within_at}
use Rattle.ax_walk.proofs.PlacingSteps.{placed_first, placed_next, placed_last}
use Rattle.ax_walk.specs.Placing.{PlacesEntries}
use Rattle.ax_walk.proofs.placing.place_items.Goals as goal

pub loop-slot-init : goal.loop-slot-init
loop-slot-init c = record {
  marked = marks_first (linked_slots (meanings c.args.slots.table.nodes.now) c.args.slots.links.now) c.args.places.now.marked c.args.start.body.now c.args.start.at false c.requires.clear c.requires.marks c.args.start.within;
  placed = placed_first c.args.slots.table.nodes.now c.args.slots.links.now c.args.places.now.marked c.args.start.body.now c.args.start.at c.args.places.now.windows (search rules);
  kept = refl;
}

pub bounds-slots-slot : goal.bounds-slots-slot
bounds-slots-slot c = (next_marked c.args.slots.table.nodes.now c.args.slots.links.now c.loop-slot.left c.take_first.new.self _ c.in-Some.slot (slots_bounds c.args.slots.table.nodes.now c.args.slots.links.now c.args.slots.slots.bounds) c.loop-slot.invariant.marked.clear c.loop-slot.invariant.marked.are_bits c.in-Some.ensures.some c.in-Some.ensures.marks).within

pub walk_record_item-requires-clause-link : goal.walk_record_item-requires-clause-link
walk_record_item-requires-clause-link c =
    let n = next_marked c.args.slots.table.nodes.now c.args.slots.links.now c.loop-slot.left c.take_first.new.self _ c.in-Some.slot (slots_bounds c.args.slots.table.nodes.now c.args.slots.links.now c.args.slots.slots.bounds) c.loop-slot.invariant.marked.clear c.loop-slot.invariant.marked.are_bits c.in-Some.ensures.some c.in-Some.ensures.marks in
    (n.some, within_at (length c.args.slots.table.nodes.now) c.args.slots.links.now (c.in-Some.slot - 1) 0 c.args.slots.slots.within n.within)

pub walk_record_item-requires-clause-bounds : goal.walk_record_item-requires-clause-bounds
walk_record_item-requires-clause-bounds c = (next_marked c.args.slots.table.nodes.now c.args.slots.links.now c.loop-slot.left c.take_first.new.self _ c.in-Some.slot (slots_bounds c.args.slots.table.nodes.now c.args.slots.links.now c.args.slots.slots.bounds) c.loop-slot.invariant.marked.clear c.loop-slot.invariant.marked.are_bits c.in-Some.ensures.some c.in-Some.ensures.marks).bounds

pub returns-in_err-end-clause-fault : goal.returns-in_err-end-clause-fault
returns-in_err-end-clause-fault c =
    if_none c.from_residual.result (marks_failed c.args.slots.table.nodes.now c.args.slots.links.now c.args.places.now.marked c.loop-slot.left c.take_first.new.self c.args.start.body.now c.in-Some.slot c.args.start.at c.loop-slot.here false c.loop-slot.invariant.marked (next_marked c.args.slots.table.nodes.now c.args.slots.links.now c.loop-slot.left c.take_first.new.self _ c.in-Some.slot (slots_bounds c.args.slots.table.nodes.now c.args.slots.links.now c.args.slots.slots.bounds) c.loop-slot.invariant.marked.clear c.loop-slot.invariant.marked.are_bits c.in-Some.ensures.some c.in-Some.ensures.marks) c.walk_record_item.new.notes.fault c.in_err-end.ensures.fault)

pub loop-slot-preserved : goal.loop-slot-preserved
loop-slot-preserved c =
    let n = next_marked c.args.slots.table.nodes.now c.args.slots.links.now c.loop-slot.left c.take_first.new.self _ c.in-Some.slot (slots_bounds c.args.slots.table.nodes.now c.args.slots.links.now c.args.slots.slots.bounds) c.loop-slot.invariant.marked.clear c.loop-slot.invariant.marked.are_bits c.in-Some.ensures.some c.in-Some.ensures.marks in
    let w = c.in_ok-end.ensures.end in record {
      marked = marks_next c.args.slots.table.nodes.now c.args.slots.links.now c.args.places.now.marked c.loop-slot.left c.take_first.new.self c.args.start.body.now c.in-Some.slot c.args.start.at c.loop-slot.here false c.loop-slot.invariant.marked n c.in_ok-end.end false (λ f. f)
          (record { value = w.value; read = w.read; canonical = λ f. cc });
      kept = c.loop-slot.invariant.kept;
      placed = placed_next c.args.slots.table.nodes.now c.args.slots.links.now c.args.places.now.marked c.loop-slot.left c.take_first.new.self c.args.start.body.now _ c.in-Some.slot c.args.start.at c.loop-slot.here c.loop-slot.places.windows c.loop-slot.invariant.placed n c.loop-slot.invariant.marked.are_bits c.in-Some.ensures.some c.in-Some.ensures.marks c.in-Some.ensures.within.1 c.args.start.few c.in_ok-end.end c.walk_record_item.new.notes.least w;
    }

pub returns-clause-end : goal.returns-clause-end
returns-clause-end c =
    subst (λ marks. PlacesEntries c.args.slots.table.nodes.now c.args.slots.links.now marks c.args.start.body.now c.args.start.at c.loop-slot.places.windows c.loop-slot.here) (sym c.loop-slot.invariant.kept)
    (placed_last c.args.slots.table.nodes.now c.args.slots.links.now c.args.places.now.marked c.loop-slot.left c.args.start.body.now c.args.start.at c.loop-slot.here c.loop-slot.places.windows c.loop-slot.invariant.marked.within c.loop-slot.invariant.placed c.in_default.ensures.none)
