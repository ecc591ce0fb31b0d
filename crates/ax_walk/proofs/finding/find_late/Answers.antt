use Rattle.std.proofs.Common.{ap, ◌∙◌}
use Rattle.ax_codec.specs.Meaning.{meanings, linked_slots}
use Rattle.ax_fspec.proofs.Marking.{marks_bits}
use Rattle.ax_format.specs.At.{slot_value}
use Rattle.ax_walk.proofs.Compounds.{marks_clear, slots_bounds}
use Rattle.ax_walk.proofs.Found.{all_got, field_never, marks_all, entries_are}
use Rattle.ax_walk.proofs.Placed.{found_in_place}
use Rattle.ax_walk.proofs.finding.find_late.Goals as goal

pub find_marked-requires-clause-slots : goal.find_marked-requires-clause-slots
find_marked-requires-clause-slots c = record { within = c.requires.links; bounds = slots_bounds c.args.codec.now.nodes c.args.slots.now c.requires.bounds }

pub find_marked-requires-clause-marks : goal.find_marked-requires-clause-marks
find_marked-requires-clause-marks c = marks_bits c.args.mask.now c.args.body.now c.read_presence.new.into 0 c.in-Ok.here c.in-Ok.ensures.ok

pub find_marked-requires-clause-clear : goal.find_marked-requires-clause-clear
find_marked-requires-clause-clear c = marks_clear (linked_slots (meanings c.args.codec.now.nodes) c.args.slots.now) c.args.mask.now c.args.body.now c.read_presence.new.into 0 c.in-Ok.here c.requires.mask c.in-Ok.ensures.ok

pub returns-in-Ok-clause-value : goal.returns-in-Ok-clause-value
returns-in-Ok-clause-value c =
    c.find_marked.ensures.value (all_got _ (marks_all c.args.codec.now.nodes c.args.slots.now c.args.mask.now c.args.body.now c.requires.mask c.requires.one c.read_presence.new.into c.in-Ok.here c.in-Ok.ensures.ok))
    ∙ ap (slot_value c.args.slot) (entries_are c.args.codec.now.nodes c.args.slots.now c.args.mask.now c.args.body.now c.requires.mask c.requires.one c.read_presence.new.into c.in-Ok.here c.in-Ok.ensures.ok)

pub returns-in-Err-clause-value : goal.returns-in-Err-clause-value
returns-in-Err-clause-value c = absurd (field_never c.args.codec.now.nodes c.args.slots.now c.args.mask.now c.args.body.now c.requires.mask c.requires.one _ c.in-Err.ensures.err)

pub returns-in-Ok-clause-window : goal.returns-in-Ok-clause-window
returns-in-Ok-clause-window c =
    found_in_place c.args.codec.now.nodes c.args.slots.now c.args.slot c.args.mask.now c.args.body.now c.read_presence.new.into c.in-Ok.here _ c.find_marked.result c.requires.mask c.in-Ok.ensures.ok
    (entries_are c.args.codec.now.nodes c.args.slots.now c.args.mask.now c.args.body.now c.requires.mask c.requires.one c.read_presence.new.into c.in-Ok.here c.in-Ok.ensures.ok) (c.find_marked.ensures.window (all_got _ (marks_all c.args.codec.now.nodes c.args.slots.now c.args.mask.now c.args.body.now c.requires.mask c.requires.one c.read_presence.new.into c.in-Ok.here c.in-Ok.ensures.ok)))
