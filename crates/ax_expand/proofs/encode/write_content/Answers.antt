use Rattle.ax_bits.specs.Out.{Appends, room}
use Rattle.ax_format.specs.Canonical.{marks_of}
use Rattle.ax_format.specs.Plain.{slots_tree, entries_tree}
use Rattle.ax_expand.proofs.Writing.{fx_field, fixed_field, octets_fit, entries_room, content_written}
use Rattle.ax_expand.specs.Fields.{least_field}
use Rattle.ax_expand.proofs.encode.write_content.Goals.{in-Fx, in-Fixed}
use Rattle.ax_expand.proofs.encode.write_content.Goals as goal

pub write_octets-requires-clause-room : goal.write_octets-requires-clause-room
write_octets-requires-clause-room c = octets_fit c.args.form (slots_tree c.args.slots.now) (entries_tree c.args.entries.now) c.in-Fixed.count (room c.args.out.now) c.in-Fixed.is c.requires.room

pub write_entries-requires-clause-room : goal.write_entries-requires-clause-room
write_entries-requires-clause-room c =
    let ss = slots_tree c.args.slots.now in
    let es = entries_tree c.args.entries.now in
    let field : Appends c.args.out.now c.match-form.out (least_field c.args.form ss (marks_of 1 ss es)) = elim c.match-form.branch [
      | in-Fx w ↦ fx_field c.args.form ss es _ c.args.out.now _ c.match-form.out w.in-Fx.is c.requires.entries w.entry_marks.ensures w.write_presence.ensures w.out-is
      | in-Fixed w ↦ fixed_field c.args.form ss es w.in-Fixed.count c.args.out.now _ c.match-form.out w.in-Fixed.is c.requires.entries w.write_octets.ensures w.out-is
    ] in
    entries_room c.args.form ss es c.args.out.now c.match-form.out c.requires.room field

pub returns : goal.returns
returns c =
    let ss = slots_tree c.args.slots.now in
    let es = entries_tree c.args.entries.now in
    let field : Appends c.args.out.now c.match-form.out (least_field c.args.form ss (marks_of 1 ss es)) = elim c.match-form.branch [
      | in-Fx w ↦ fx_field c.args.form ss es _ c.args.out.now _ c.match-form.out w.in-Fx.is c.requires.entries w.entry_marks.ensures w.write_presence.ensures w.out-is
      | in-Fixed w ↦ fixed_field c.args.form ss es w.in-Fixed.count c.args.out.now _ c.match-form.out w.in-Fixed.is c.requires.entries w.write_octets.ensures w.out-is
    ] in
    content_written c.args.form ss es c.args.out.now c.match-form.out c.write_entries.new.out field c.write_entries.ensures
