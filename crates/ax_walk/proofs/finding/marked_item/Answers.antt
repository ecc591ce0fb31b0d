use Rattle.std.proofs.Common.{subst, sym}
use Rattle.ax_fspec.proofs.Marking.{marks_bits}
use Rattle.ax_fspec.specs.Reading.{IsMaskOf}
use Rattle.ax_codec.specs.Meaning.{meanings, linked_slots}
use Rattle.ax_walk.proofs.Compounds.{marks_clear}
use Rattle.ax_walk.proofs.Placed.{is_marked_item}
use Rattle.ax_walk.proofs.SlotTables.{slots_are}
use Rattle.ax_walk.specs.Rows.{AreSlots}
use Rattle.ax_walk.proofs.finding.marked_item.Goals as goal

pub find_marked-requires-clause-slots : goal.find_marked-requires-clause-slots
find_marked-requires-clause-slots c =
    let codec = c.args.codec.now in
    subst (AreSlots codec.nodes) (sym c.as_slice.ensures.members) (slots_are codec.nodes codec.slots codec.mask codec.records)

pub find_marked-requires-clause-marks : goal.find_marked-requires-clause-marks
find_marked-requires-clause-marks c = marks_bits c.args.codec.now.mask c.args.body.now c.args.marked c.requires.field.at c.args.at c.requires.field.field

pub find_marked-requires-clause-clear : goal.find_marked-requires-clause-clear
find_marked-requires-clause-clear c =
    marks_clear (linked_slots (meanings c.args.codec.now.nodes) c.as_slice.result.now) c.args.codec.now.mask c.args.body.now c.args.marked c.requires.field.at c.args.at
    (subst (λ links. IsMaskOf (linked_slots (meanings c.args.codec.now.nodes) links) c.args.codec.now.mask) (sym c.as_slice.ensures.members) c.args.codec.now.records.mask) c.requires.field.field

pub invariant_of-start : goal.invariant_of-start
invariant_of-start c = record { few = c.requires.body; within = c.requires.field.field.within }

pub returns-clause-item : goal.returns-clause-item
returns-clause-item c = is_marked_item c.args.codec.now c.as_slice.result.now c.args.marked c.args.body.now c.args.at c.args.slot c.find_marked.result c.as_slice.ensures.members c.find_marked.ensures.value c.find_marked.ensures.window
