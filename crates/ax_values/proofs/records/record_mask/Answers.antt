use Rattle.std.proofs.Common.{◌≡◌, ◌+◌, ◌<◌, List, ℕ, length, arith, refl, subst, sym, ◌∙◌}
use Rattle.ax_format.specs.Plain.{spec_tree}
use Rattle.ax_format.specs.Tree.{SlotTree}
use Rattle.ax_fspec.proofs.Marking.{MaskSoFar, mask_none, mask_more, mask_same}
use Rattle.ax_fspec.proofs.RecordSlots.{frn_at, frn_count}
use Rattle.ax_fspec.specs.Reading.{record_slot_list, slot_of_frn}
use Rattle.ax_values.proofs.records.record_mask.Goals.{then-has_item, else-has_item}
use Rattle.ax_values.proofs.records.record_mask.Goals as goal

pub loop-index-init : goal.loop-index-init
loop-index-init c = let slots = record_slot_list (spec_tree c.args.spec.now) in subst (λ marks. MaskSoFar slots 0 marks) (sym c.empty-defined.ensures) (mask_none slots)

pub loop-index-preserved : goal.loop-index-preserved
loop-index-preserved c =
    let spec = c.args.spec.now in
    let slots : List SlotTree = record_slot_list (spec_tree spec) in
    let i : ℕ = c.loop-index.index in
    let s = slot_of_frn (i + 1) spec in
    let size : length slots ≡ length spec.uap = frn_count spec in
    let within : i < length spec.uap = omega (arith, c.loop-index-test.true, c.count-index-end.ensures) in
    let here = frn_at spec i (i + 1) within refl in
    elim c.if-has_item.branch [
      | then-has_item w ↦ subst (λ marks. MaskSoFar slots (i + 1) marks) (sym w.defined-is) (mask_more slots i (i + 1) s c.loop-index.defined w.mark.new.self c.loop-index.invariant (omega arith) (omega (arith, c.requires)) here refl (sym c.has_item.ensures ∙ w.if-has_item.true) w.mark.ensures)
      | else-has_item w ↦ subst (λ marks. MaskSoFar slots (i + 1) marks) (sym w.defined-is) (mask_same slots i s c.loop-index.defined c.loop-index.invariant (omega arith) (omega (arith, c.requires)) here (sym c.has_item.ensures ∙ w.if-has_item.false))
    ]
