use Rattle.std.proofs.Common.{◌≡◌, length, sym, subst, arith}
use Rattle.std.proofs.lemmas.Grind.{common_steps}
use Rattle.ax_fspec.specs.Marks.{seven}
use Rattle.ax_rows.specs.Rows.{row_of, HaveRow, StandsBefore}
use Rattle.ax_rows.proofs.RowLists.{row_stands}
use Rattle.ax_rows.proofs.StandingRows.{row_stood, row_added}
use Rattle.ax_rows.proofs.making.push_row_if_any.Goals as goal

pub returns-in-Some-clause-row : goal.returns-in-Some-clause-row
returns-in-Some-clause-row c =
    let has : HaveRow c.args.octets.now c.args.slots.now (seven c.args.marks) = grind (arith, c.have_row.ensures, c.if-not-have_row.false) in
    row_stood c.args.octets.now c.args.slots.now (seven c.args.marks) c.args.steps.now.items c.push_row.new.steps.items c.truncate.new.self.items c.len-first.result c.in-Some.place has c.in_ok-push_row.ensures.row
    (let e : c.len-first.result ≡ length c.args.steps.now.items = grind (arith, common_steps, c.len-first.ensures) in e) (omega (arith, c.if-first.false)) (subst (λ xs. StandsBefore xs c.in-Some.place c.len-first.result) c.as_slice.ensures.value c.in-Some.ensures.some) c.truncate.ensures.items

pub returns-clause-once : goal.returns-clause-once
returns-clause-once c = row_added c.args.from c.args.steps.now.items c.push_row.new.steps.items (row_of c.args.octets.now c.args.slots.now (seven c.args.marks) 0) c.len-first.result c.in_ok-push_row.ensures.row
    (let e : c.len-first.result ≡ length c.args.steps.now.items = grind (arith, common_steps, c.len-first.ensures) in e)
    (λ place after lt h. c.in_default.ensures.none place after lt (subst (λ xs. StandsBefore xs place c.len-first.result) (sym c.as_slice.ensures.value) h))

pub returns-clause-row : goal.returns-clause-row
returns-clause-row c =
    let has : HaveRow c.args.octets.now c.args.slots.now (seven c.args.marks) = grind (arith, c.have_row.ensures, c.if-not-have_row.false) in
    row_stands c.args.octets.now c.args.slots.now (seven c.args.marks) c.args.steps.now.items c.push_row.new.steps.items c.len-first.result has c.in_ok-push_row.ensures.row
    (let e : c.len-first.result ≡ length c.args.steps.now.items = grind (arith, common_steps, c.len-first.ensures) in e) (omega (arith, c.if-first.false))
