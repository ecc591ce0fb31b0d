use Rattle.std.proofs.Common.{sym, ◌∙◌, ap, ◌+◌, arith}
use Rattle.ax_format.proofs.RecordFitting.{slot_refuses, slot_takes, slots_end}
use Rattle.ax_model.proofs.block_fitting.fits_record.Goals as goal

pub returns-in_default : goal.returns-in_default
returns-in_default c =
    slot_refuses c.args.spec.now.items c.as_slice-slot-items.result.now c.loop-slot.slot-index c.loop-slot.number c.slot-item.result c.loop-slot.rest.now _
    c.loop-slot-test.true c.slot-item.is (c.in_default.ensures) c.loop-slot.invariant.1

pub overflow_add-number : goal.overflow_add-number
overflow_add-number c = omega (arith, c.as_slice-slot-items.ensures.bound)

pub loop-slot-preserved : goal.loop-slot-preserved
loop-slot-preserved c = (
  ap (λ n. n + 1) c.loop-slot.invariant.0,
  slot_takes c.args.spec.now.items c.as_slice-slot-items.result.now c.loop-slot.slot-index c.loop-slot.number c.slot-item.result c.loop-slot.rest.now c.in-Some.later.now _
      c.loop-slot-test.true c.slot-item.is (c.in-Some.ensures) c.loop-slot.invariant.1,
)

pub returns : goal.returns
returns c = c.is_empty.ensures ∙ sym (c.loop-slot.invariant.1 ∙ slots_end c.args.spec.now.items c.as_slice-slot-items.result.now c.loop-slot.slot-index c.loop-slot.number c.loop-slot.rest.now c.loop-slot-test.false)
