use Rattle.ax_codec.specs.Meaning.{meanings, linked_slots}
use Rattle.ax_walk.proofs.Compounds.{marks_clear, record_failed, compound_end, compound_fault}
use Rattle.ax_fspec.proofs.Marking.{marks_bits}
use Rattle.ax_walk.proofs.octets.walk_slots.Goals as goal

pub returns-in-Ok-clause-end : goal.returns-in-Ok-clause-end
returns-in-Ok-clause-end c =
    compound_end c.args.slots.table.nodes.now c.args.slots.links.now c.args.slots.mask.now c.args.start.body.now c.read_presence.new.into c.args.start.at c.in-Ok.here c.are_octets.ensures c.args.slots.slots.bounds c.args.slots.slots.mask c.in-Ok.ensures.ok c.note_field.new.notes.least c.walk_items.new.notes.least c.walk_items.result c.note_field.ensures.needed c.walk_items.ensures.falls c.walk_items.ensures.end

pub returns-in-Ok-clause-fault : goal.returns-in-Ok-clause-fault
returns-in-Ok-clause-fault c =
    compound_fault c.args.slots.table.nodes.now c.args.slots.links.now c.args.slots.mask.now c.args.start.body.now c.read_presence.new.into c.args.start.at c.in-Ok.here c.are_octets.ensures c.args.slots.slots.bounds c.args.slots.slots.mask c.in-Ok.ensures.ok c.note_field.new.notes.least c.walk_items.new.notes.fault c.walk_items.result c.note_field.ensures.needed c.walk_items.ensures.fault

pub returns-in-Err-clause-fault : goal.returns-in-Err-clause-fault
returns-in-Err-clause-fault c =
    record_failed c.args.slots.table.nodes.now c.args.slots.links.now c.args.slots.mask.now c.args.start.body.now c.args.start.at c.in-Err.fault c.args.slots.slots.mask c.in-Err.ensures.err

pub walk_items-requires-clause-marks : goal.walk_items-requires-clause-marks
walk_items-requires-clause-marks c = marks_bits c.args.slots.mask.now c.args.start.body.now c.read_presence.new.into c.args.start.at c.in-Ok.here c.in-Ok.ensures.ok

pub walk_items-requires-clause-clear : goal.walk_items-requires-clause-clear
walk_items-requires-clause-clear c = marks_clear (linked_slots (meanings c.args.slots.table.nodes.now) c.args.slots.links.now) c.args.slots.mask.now c.args.start.body.now c.read_presence.new.into c.args.start.at c.in-Ok.here c.args.slots.slots.mask c.in-Ok.ensures.ok

pub returns-in-Ok-clause-falls : goal.returns-in-Ok-clause-falls
returns-in-Ok-clause-falls c = λ h. c.note_field.ensures.falls (c.walk_items.ensures.falls h)
