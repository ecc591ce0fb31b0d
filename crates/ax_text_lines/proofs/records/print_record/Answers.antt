use Rattle.std.proofs.Common.{subst, sym}
use Rattle.ax_held_kinds.proofs.MarkedSlots.{marks_clear}
use Rattle.ax_format.proofs.Bounds.{record_bounds}
use Rattle.ax_format.specs.InBounds.{SlotsInBounds}
use Rattle.ax_format.specs.Plain.{spec_tree}
use Rattle.ax_format.specs.Presence.{NoneUndefined}
use Rattle.ax_format.specs.Specification.{record_kind}
use Rattle.ax_format.specs.Tree.{slots_of, defined_slots}
use Rattle.ax_fspec.proofs.Marking.{field_failed}
use Rattle.ax_fspec.specs.Reading.{record_slot_list, kind_read, entries_at}
use Rattle.ax_text_lines.proofs.RecordsPrinted.{record_printed}
use Rattle.ax_text_lines.specs.Prints.{slots_onto, Prints}
use Rattle.ax_text_lines.proofs.records.print_record.Goals as goal
use Rattle.ax_values.proofs.Continuing.{err_by_fault, err_is}
use Rattle.ax_values.proofs.Marking.{compound_failed}
use Rattle.ax_values.specs.SlotReading.{HasFailed}

pub returns-in_err-here-clause-err : goal.returns-in_err-here-clause-err
returns-in_err-here-clause-err c =
    let spec = spec_tree c.args.items.now in
    let fault = c.in_err-here.field-0.0 in
    err_by_fault (kind_read (record_kind spec) c.args.body.now c.args.at) c.args.at c.from_residual.result fault c.from_residual.ensures.1
    (field_failed (record_slot_list spec) c.args.mask.now c.args.body.now c.args.at fault c.requires.mask c.in_err-here.ensures.err)

pub returns-in_err-end-clause-err : goal.returns-in_err-end-clause-err
returns-in_err-end-clause-err c =
    let spec = spec_tree c.args.items.now in
    let e = c.in_err-end.field-0.0 in
    let body = c.args.body.now in
    let marks = c.read_presence.new.into in
    let here = c.in_ok-here.here in
    let failed = subst (λ slots. HasFailed (entries_at (slots_of slots) marks body here) here e) c.slots.ensures c.in_err-end.ensures.err in
    err_is (kind_read (record_kind spec) body c.args.at) c.args.at c.from_residual-in_err-end.result e c.from_residual-in_err-end.ensures.1
    (compound_failed (record_slot_list spec) c.args.mask.now body marks c.args.at here e c.requires.mask c.in_ok-here.ensures.ok failed)

pub returns-clause-ok : goal.returns-clause-ok
returns-clause-ok c =
    let body = c.args.body.now in
    let marks = c.read_presence.new.into in
    let here = c.in_ok-here.here in
    let end = c.in_ok-end.end in
    let put = subst (λ slots. Prints (slots_onto (slots_of slots)) (entries_at (slots_of slots) marks body here) body here end c.open.new.self.octets c.print_marked.new.line.octets) c.slots.ensures c.in_ok-end.ensures.ok in
    record_printed (spec_tree c.args.items.now) c.args.mask.now body marks c.args.at here end c.args.line.now.octets c.text.new.self.octets c.open.new.self.octets c.print_marked.new.line.octets c.close.new.self.octets
    c.requires.spec c.requires.mask c.in_ok-here.ensures.ok c.in_ok-text.ensures.appended c.in_ok-open.ensures.appended put c.in_ok-close.ensures.appended

pub print_marked-requires-clause-bounds : goal.print_marked-requires-clause-bounds
print_marked-requires-clause-bounds c = subst (λ slots. SlotsInBounds (slots_of slots)) (sym c.slots.ensures) (record_bounds (spec_tree c.args.items.now) c.requires.spec).2

pub print_marked-requires-clause-clear : goal.print_marked-requires-clause-clear
print_marked-requires-clause-clear c =
    let marks = c.read_presence.new.into in
    subst (λ slots. NoneUndefined (defined_slots (slots_of slots)) marks) (sym c.slots.ensures)
    (marks_clear (record_slot_list (spec_tree c.args.items.now)) c.args.mask.now c.args.body.now marks c.args.at c.in_ok-here.here c.requires.mask c.in_ok-here.ensures.ok)
