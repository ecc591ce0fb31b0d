use Rattle.std.proofs.Common.{◌≡◌, ◌+◌, ◌<◌, List, ℕ, true, false, length, arith, refl, subst, sym, ◌∙◌}
use Rattle.ax_format.specs.Plain.{spec_tree}
use Rattle.ax_format.specs.Specification.{record_slots}
use Rattle.ax_format.specs.Tree.{SlotTree}
use Rattle.ax_values.proofs.Continuing.{err_is}
use Rattle.ax_values.proofs.Marking.{EntriesSoFar, entries_begin, entries_more, entries_skip, entries_failed, entries_all}
use Rattle.ax_fspec.proofs.RecordSlots.{frn_at, frn_count, frn_bounds}
use Rattle.ax_fspec.specs.Reading.{record_slot_list, slot_of_frn, entries_at}
use Rattle.ax_values.proofs.records.decode_marked.Goals.{then-has+in_ok-here, else-has}
use Rattle.ax_values.proofs.records.decode_marked.Goals as goal

pub loop-index-init : goal.loop-index-init
loop-index-init c =
    let slots = record_slot_list (spec_tree c.args.spec.now) in
    subst (λ made. EntriesSoFar slots c.args.marked.now c.args.body.now 0 c.args.at c.args.at made) (sym c.new-made.ensures) (entries_begin slots c.args.marked.now c.args.body.now c.args.at c.requires.marks c.requires.at)

pub decode_item-requires-clause-bounds : goal.decode_item-requires-clause-bounds
decode_item-requires-clause-bounds c = frn_bounds c.args.spec.now c.loop-index.index (c.loop-index.index + 1) c.requires.spec (omega (arith, c.loop-index-test.true, c.count-index-end.ensures)) refl

pub returns-in_err-here-clause-err : goal.returns-in_err-here-clause-err
returns-in_err-here-clause-err c =
    let spec = c.args.spec.now in
    let slots : List SlotTree = record_slot_list (spec_tree spec) in
    let i : ℕ = c.loop-index.index in
    let size : length slots ≡ length spec.uap = frn_count spec in
    let within : i < length spec.uap = omega (arith, c.loop-index-test.true, c.count-index-end.ensures) in
    let e = c.in_err-here.field-0.0 in
    err_is (entries_at (record_slots (spec_tree spec)) c.args.marked.now c.args.body.now c.args.at) c.args.at c.from_residual.result e c.from_residual.ensures.1
    (entries_failed slots c.args.marked.now c.args.body.now i (i + 1) c.args.at c.loop-index.here c.loop-index.made (slot_of_frn (i + 1) spec) e c.loop-index.invariant (omega arith) (frn_at spec i (i + 1) within refl) refl (c.has.ensures.0 c.if-has.true) c.in_err-here.ensures.err)

pub loop-index-preserved : goal.loop-index-preserved
loop-index-preserved c =
    let spec = c.args.spec.now in
    let slots : List SlotTree = record_slot_list (spec_tree spec) in
    let marks = c.args.marked.now in
    let body = c.args.body.now in
    let i : ℕ = c.loop-index.index in
    let s = slot_of_frn (i + 1) spec in
    let size : length slots ≡ length spec.uap = frn_count spec in
    let within : i < length spec.uap = omega (arith, c.loop-index-test.true, c.count-index-end.ensures) in
    let here = frn_at spec i (i + 1) within refl in
    let before : EntriesSoFar slots marks body i c.args.at c.loop-index.here c.loop-index.made = c.loop-index.invariant in
    elim c.if-has.branch [
      | then-has+in_ok-here w ↦
          subst (λ end. EntriesSoFar slots marks body (i + 1) c.args.at end c.if-has.made) (sym w.here-is)
          (subst (λ made. EntriesSoFar slots marks body (i + 1) c.args.at w.in_ok-here.here made) (sym w.made-is)
          (entries_more slots marks body i (i + 1) c.args.at c.loop-index.here w.in_ok-here.here c.loop-index.made w.decode_item.new.into s before (omega arith) here refl (c.has.ensures.0 w.if-has.true) w.in_ok-here.ensures.ok before.within))
      | else-has w ↦
          subst (λ end. EntriesSoFar slots marks body (i + 1) c.args.at end c.if-has.made) (sym w.here-is)
          (subst (λ made. EntriesSoFar slots marks body (i + 1) c.args.at c.loop-index.here made) (sym w.made-is)
          (entries_skip slots marks body i (i + 1) c.args.at c.loop-index.here c.loop-index.made s before (omega arith) here refl (λ one. absurd (let yes : c.has.result ≡ true = c.has.ensures.1 one in let e : true ≡ false = sym yes ∙ w.if-has.false in cc))))
    ]

pub returns-clause-ok : goal.returns-clause-ok
returns-clause-ok c =
    let spec = c.args.spec.now in
    let size : length (record_slot_list (spec_tree spec)) ≡ length spec.uap = frn_count spec in
    entries_all (record_slot_list (spec_tree spec)) c.args.marked.now c.args.body.now c.loop-index.index c.args.at c.loop-index.here c.loop-index.made c.loop-index.invariant (omega (arith, c.loop-index-test.false, c.count-index-end.ensures))
