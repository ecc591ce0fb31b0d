use Rattle.std.proofs.Common.{◌+◌, ◌<◌, ℕ, [], ◌∷◌, length, arith, ap, ◌∙◌, length-append}
use Rattle.ax_text_lines.proofs.UapSlots.{item_held}
use Rattle.ax_text_lines.proofs.items.TextItems.of.Goals as goal

pub loop-index-preserved : goal.loop-index-preserved
loop-index-preserved c =
    let spec = c.args.spec.now in
    let i : ℕ = c.loop-index.index in
    let within : i < length spec.uap = omega (arith, c.loop-index-test.true, c.count-index-end.ensures) in (
      ap length c.in_ok-push.ensures.ok ∙ length-append c.loop-index.slots (c.in_ok-slot.slot ∷ []) ∙ ap (λ n. n + 1) c.loop-index.invariant.0,
      item_held spec i c.loop-index.slots c.push.new.self c.in_ok-slot.slot within c.loop-index.invariant.1 c.in_ok-slot.ensures c.in_ok-push.ensures.ok,
    )
