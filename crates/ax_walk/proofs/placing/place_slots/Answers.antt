use Rattle.std.proofs.Common.{refl, false, subst, sym}
use Rattle.ax_fspec.proofs.Marking.{marks_bits}
use Rattle.ax_fspec.specs.Fields.{MarksSlots}
use Rattle.ax_codec.specs.Meaning.{meanings, linked_slots}
use Rattle.ax_walk.proofs.Compounds.{marks_clear, record_failed, compound_fault}
use Rattle.ax_walk.proofs.PlacingSteps.{placed_kind}
use Rattle.ax_walk.proofs.placing.place_slots.Goals as goal

pub place_items-requires-clause-marks : goal.place_items-requires-clause-marks
place_items-requires-clause-marks c = marks_bits c.args.slots.mask.now c.args.start.body.now c.read_presence.new.into c.args.start.at c.in-Ok.here c.in-Ok.ensures.ok

pub place_items-requires-clause-clear : goal.place_items-requires-clause-clear
place_items-requires-clause-clear c = marks_clear (linked_slots (meanings c.args.slots.table.nodes.now) c.args.slots.links.now) c.args.slots.mask.now c.args.start.body.now c.read_presence.new.into c.args.start.at c.in-Ok.here c.args.slots.slots.mask c.in-Ok.ensures.ok

pub returns-in-Ok-clause-end : goal.returns-in-Ok-clause-end
returns-in-Ok-clause-end c =
    let places = c.place_items.new.places in
    placed_kind c.args.slots.table.nodes.now c.args.slots.links.now c.args.start.body.now places.marked c.args.slots.mask.now c.args.start.at c.in-Ok.here places.windows places c.place_items.result c.args.slots.slots.mask
    (subst (MarksSlots c.args.slots.mask.now c.args.start.body.now c.args.start.at c.in-Ok.here) (sym c.place_items.ensures.marked) c.in-Ok.ensures.ok) refl c.place_items.ensures.end

pub returns-in-Ok-clause-fault : goal.returns-in-Ok-clause-fault
returns-in-Ok-clause-fault c =
    compound_fault c.args.slots.table.nodes.now c.args.slots.links.now c.args.slots.mask.now c.args.start.body.now c.read_presence.new.into c.args.start.at c.in-Ok.here c.are_octets.ensures c.args.slots.slots.bounds c.args.slots.slots.mask c.in-Ok.ensures.ok false c.place_items.new.notes.fault c.place_items.result (λ f. cc) c.place_items.ensures.fault

pub returns-in-Err-clause-fault : goal.returns-in-Err-clause-fault
returns-in-Err-clause-fault c =
    record_failed c.args.slots.table.nodes.now c.args.slots.links.now c.args.slots.mask.now c.args.start.body.now c.args.start.at c.in-Err.fault c.args.slots.slots.mask c.in-Err.ensures.err
