use Rattle.std.proofs.Common.{◌≡◌, ◌∷◌, [], rules, subst, sym, ap}
use Rattle.std.proofs.lemmas.Option.{IfSome_then}
use Rattle.ax_format.specs.Canonical.{entries_canon}
use Rattle.ax_format.specs.Plain.{spec_tree}
use Rattle.ax_format.specs.Specification.{record_slots}
use Rattle.ax_format.specs.Tree.{slots_of}
use Rattle.ax_text_form.specs.ValueText.{closing, entries_onto}
use Rattle.ax_text_lines.specs.HeldText.{text_slots}
use Rattle.ax_printed_lines.specs.Printed.{AreSlots, IsBuilt, HasMarks}
use Rattle.ax_printed_lines.proofs.RecordsBuilt.{record_whole}
use Rattle.ax_printed_lines.proofs.records.record_built.Goals as goal

pub entries_built-requires : goal.entries_built-requires
entries_built-requires c =
    let same : record_slots (spec_tree c.args.items.now) ≡ text_slots c.slots-2.result.now = ap slots_of (sym c.slots-2.ensures) in
    subst AreSlots same c.requires

pub returns : goal.returns
returns c =
    let spec = spec_tree c.args.items.now in
    let same : text_slots c.slots-2.result.now ≡ record_slots spec = ap slots_of c.slots-2.ensures in
    let built = subst (λ ss. IsBuilt (HasMarks ss c.in_ok-marks.marks) (λ es. entries_onto 1 ss es (closing ∷ [])) (entries_canon 1 ss) c.opens.new.self c.entries_built.new.cursor c.leave.new.self c.entries_built.new.out) same c.in_ok-marks.ensures in
    IfSome_then c.field_filled.result c.field_filled.ensures (λ done. record_whole spec c.in_ok-marks.marks c.in_ok-at.at c.field_room-room.result c.args.cursor.now c.takes.new.self c.opens.new.self c.entries_built.new.cursor c.args.out.now c.leave.new.self c.entries_built.new.out c.field_filled.new.out (search rules) (search rules) c.in_ok-at.ensures built)
