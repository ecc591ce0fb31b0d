use Rattle.std.proofs.Common.{◌∙◌, ◌++◌, ap, refl, subst, sym}
use Rattle.ax_relation.specs.PlainMoves.{moves_tree}
use Rattle.ax_fspec.specs.Fields.{least_field}
use Rattle.ax_fspec.specs.Marks.{no_marks}
use Rattle.ax_moves.proofs.LaidBits.{lays_more}
use Rattle.ax_moves.proofs.MovesBySlot.{absent_slots, canon_from, marks_from}
use Rattle.ax_moves.specs.Laying.{Lays}
use Rattle.ax_moves.specs.Octets.{entries_canon_by, field_by}
use Rattle.ax_moves.specs.Wholes.{whole_entries, whole_slots}
use Rattle.ax_moves.proofs.in_order.lay_in_order.Goals as goal

pub returns-clause-laid : goal.returns-clause-laid
returns-clause-laid c =
    let w = c.args.whole.now in
    let ms = moves_tree c.args.moves.now in
    let ss = whole_slots w in
    let es = whole_entries w in
    let marks = w.places.now.marked in
    let absent = absent_slots marks es c.requires.placed.placed.others in
    let set = c.marked_anew-marked.ensures ∙ sym (marks_from 1 marks ms ms ss es no_marks c.requires.ordered (λ u le. refl) absent) in
    let field = subst (λ b. Lays b c.args.at c.lay_field-end.result c.args.output.now c.lay_field-end.new.output) (ap least_field set) c.lay_field-end.ensures.laid in
    let rest = subst (λ b. Lays b c.lay_field-end.result c.lay_marked.result c.lay_field-end.new.output c.lay_marked.new.output) (sym (canon_from 1 marks ms ms ss es c.requires.ordered (λ u le. refl) absent)) c.lay_marked.ensures.laid in
    lays_more (field_by ms es) (entries_canon_by ms ss es) (field_by ms es ++ entries_canon_by ms ss es) c.args.at c.lay_field-end.result c.lay_marked.result c.args.output.now c.lay_field-end.new.output c.lay_marked.new.output refl field rest
