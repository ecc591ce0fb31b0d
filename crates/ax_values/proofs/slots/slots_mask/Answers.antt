use Rattle.std.proofs.Common.{◌≡◌, ◌+◌, ◌<◌, List, ℕ, length, map, get_or, arith, refl, subst, sym, ◌∙◌}
use Rattle.std.proofs.lemmas.List.{length-map}
use Rattle.ax_format.specs.Plain.{slot_tree}
use Rattle.ax_format.specs.Tree.{SlotTree}
use Rattle.ax_fspec.proofs.Marking.{MaskSoFar, mask_none, mask_more, mask_same, map_at}
use Rattle.ax_values.proofs.slots.slots_mask.Goals.{then-is_sub, else-is_sub}
use Rattle.ax_values.proofs.slots.slots_mask.Goals as goal

pub loop-slot-init : goal.loop-slot-init
loop-slot-init c = record { number = refl; mask = subst (λ marks. MaskSoFar (map slot_tree c.args.slots.now) 0 marks) (sym c.empty-defined.ensures) (mask_none (map slot_tree c.args.slots.now)) }

pub loop-slot-preserved : goal.loop-slot-preserved
loop-slot-preserved c =
    let all = c.args.slots.now in
    let slots : List SlotTree = map slot_tree all in
    let i : ℕ = c.loop-slot.slot-index in
    let s = c.slot-item.result in
    let same = c.as_slice-slot-items.ensures.members in
    let within : i < length all = subst (λ xs. i < length xs) same c.loop-slot-test.true in
    let is : s ≡ get_or all i s = subst (λ xs. s ≡ get_or xs i s) same c.slot-item.is in
    let size : length slots ≡ length all = length-map all slot_tree in
    let here : slot_tree s ≡ get_or slots i (slot_tree s) = map_at slot_tree all i s is in
    let mask : MaskSoFar slots i c.loop-slot.defined = c.loop-slot.invariant.mask in
    let number = c.loop-slot.invariant.number in
    record {
      number = omega arith;
      mask = elim c.if-is_sub.branch [
        | then-is_sub w ↦ subst (λ marks. MaskSoFar slots (i + 1) marks) (sym w.defined-is) (mask_more slots i (c.loop-slot.number + 1) (slot_tree s) c.loop-slot.defined w.mark.new.self mask (omega arith) (omega (arith, c.requires)) here (omega arith) (sym c.is_sub.ensures ∙ w.if-is_sub.true) w.mark.ensures)
        | else-is_sub w ↦ subst (λ marks. MaskSoFar slots (i + 1) marks) (sym w.defined-is) (mask_same slots i (slot_tree s) c.loop-slot.defined mask (omega arith) (omega (arith, c.requires)) here (sym c.is_sub.ensures ∙ w.if-is_sub.false))
      ];
    }
