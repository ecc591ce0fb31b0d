use Rattle.std.proofs.Common.{◌≡◌, ◌<◌, ◌≤◌, ℕ, length, get_or, subst, sym}
use Rattle.ax_values.proofs.WrittenKinds.{MarksOf, marks_of_none, marks_more, mark_fits, marks_all}
use Rattle.ax_values.proofs.marks.entry_marks.Goals as goal

pub loop-entry-init : goal.loop-entry-init
loop-entry-init c = subst (λ marks. MarksOf c.args.entries.now 0 marks) (sym c.empty-marks.ensures) (marks_of_none c.args.entries.now)

pub mark-requires : goal.mark-requires
mark-requires c =
    let all = c.args.entries.now in
    let i : ℕ = c.loop-entry.entry-index in
    let e = c.entry-item.result in
    let same = c.as_slice-entry-items.ensures.members in
    mark_fits all i e c.loop-entry.marks c.requires.0 c.requires.1 c.loop-entry.invariant (subst (λ xs. i < length xs) same c.loop-entry-test.true) (subst (λ xs. e ≡ get_or xs i e) same c.entry-item.is)

pub loop-entry-preserved : goal.loop-entry-preserved
loop-entry-preserved c =
    let all = c.args.entries.now in
    let i : ℕ = c.loop-entry.entry-index in
    let e = c.entry-item.result in
    let same = c.as_slice-entry-items.ensures.members in
    marks_more all i e c.loop-entry.marks c.mark.new.self c.loop-entry.invariant (subst (λ xs. i < length xs) same c.loop-entry-test.true) (subst (λ xs. e ≡ get_or xs i e) same c.entry-item.is) c.mark.ensures

pub returns : goal.returns
returns c = marks_all c.args.entries.now c.loop-entry.entry-index c.loop-entry.marks c.loop-entry.invariant (subst (λ xs. length xs ≤ c.loop-entry.entry-index) c.as_slice-entry-items.ensures.members c.loop-entry-test.false)
