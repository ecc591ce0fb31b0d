use Rattle.std.proofs.Common.{◌≡◌, ◌+◌, ◌<◌, List, ℕ, length, map, get_or, arith, refl, subst, sym, ◌∙◌}
use Rattle.std.proofs.lemmas.List.{length-map}
use Rattle.ax_format.specs.Tree.{SlotTree}
use Rattle.ax_fspec.proofs.Marking.{MaskSoFar, mask_none, mask_more, mask_same, map_at}
use Rattle.ax_held_kinds.proofs.fields.mask_of.Goals.{then-is_sub, else-is_sub}
use Rattle.ax_held_kinds.proofs.fields.mask_of.Goals as goal

pub loop-slot-init : goal.loop-slot-init
loop-slot-init g c = record { number = refl; mask = subst (λ marks. MaskSoFar (map g.S.PresenceSlot.tree c.args.slots.now) 0 marks) (sym c.empty-defined.ensures) (mask_none (map g.S.PresenceSlot.tree c.args.slots.now)) }

pub loop-slot-preserved : goal.loop-slot-preserved
loop-slot-preserved g c =
    let all = c.args.slots.now in
    let slots : List SlotTree = map g.S.PresenceSlot.tree all in
    let i : ℕ = c.loop-slot.slot-index in
    let s = c.slot-item.result in
    let within : i < length all = c.loop-slot-test.true in
    let is : s ≡ get_or all i s = c.slot-item.is in
    let size : length slots ≡ length all = length-map all g.S.PresenceSlot.tree in
    let here : g.S.PresenceSlot.tree s ≡ get_or slots i (g.S.PresenceSlot.tree s) = map_at g.S.PresenceSlot.tree all i s is in
    let mask : MaskSoFar slots i c.loop-slot.defined = c.loop-slot.invariant.mask in
    let number = c.loop-slot.invariant.number in
    record {
      number = omega arith;
      mask = elim c.if-is_sub.branch [
        | then-is_sub w ↦ subst (λ marks. MaskSoFar slots (i + 1) marks) (sym w.defined-is) (mask_more slots i (c.loop-slot.number + 1) (g.S.PresenceSlot.tree s) c.loop-slot.defined w.mark.new.self mask (omega arith) (omega (arith, c.requires)) here (omega arith) (sym c.is_sub.ensures ∙ w.if-is_sub.true) w.mark.ensures)
        | else-is_sub w ↦ subst (λ marks. MaskSoFar slots (i + 1) marks) (sym w.defined-is) (mask_same slots i (g.S.PresenceSlot.tree s) c.loop-slot.defined mask (omega arith) (omega (arith, c.requires)) here (sym c.is_sub.ensures ∙ w.if-is_sub.false))
      ];
    }
