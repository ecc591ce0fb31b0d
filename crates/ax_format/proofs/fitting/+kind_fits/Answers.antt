use Rattle.std.proofs.Common.{◌+◌, sym, ◌∙◌, ap, arith}
use Rattle.ax_format.proofs.FittingLists.{few_values, many_values, slot_refuses, slot_takes, slots_end}
use Rattle.ax_format.specs.Fitting.{each_fits, kind_fits}
use Rattle.ax_format.specs.Plain.{kind_tree, values_tree}
use Rattle.ax_format.proofs.fitting.+kind_fits.Goals as goal

pub fits_counted-returns-then-count-greatest : goal.fits_counted-returns-then-count-greatest
fits_counted-returns-then-count-greatest t c = many_values c.args.values.now _ _ (omega (arith, c.greatest.ensures))

pub fits_counted-returns : goal.fits_counted-returns
fits_counted-returns t c =
    few_values c.args.values.now _ _ _ (omega (arith, c.greatest.ensures)) (c.fits_each.ensures ∙ ap (λ x. each_fits (kind_fits (kind_tree c.args.inner.now)) (values_tree x)) c.as_slice.ensures.members)

pub fits_slots-returns-in_default : goal.fits_slots-returns-in_default
fits_slots-returns-in_default t c =
    slot_refuses c.as_slice-slot-items.result.now c.loop-slot.slot-index c.loop-slot.number c.slot-item.result c.loop-slot.rest.now _
    c.loop-slot-test.true c.slot-item.is c.in_default.ensures c.loop-slot.invariant.1

pub fits_slots-overflow_add-number : goal.fits_slots-overflow_add-number
fits_slots-overflow_add-number t c = omega (arith, c.as_slice-slot-items.ensures.bound)

pub fits_slots-loop-slot-preserved : goal.fits_slots-loop-slot-preserved
fits_slots-loop-slot-preserved t c = (
  ap (λ n. n + 1) c.loop-slot.invariant.0,
  slot_takes c.as_slice-slot-items.result.now c.loop-slot.slot-index c.loop-slot.number c.slot-item.result c.loop-slot.rest.now c.in-Some.later.now _
      c.loop-slot-test.true c.slot-item.is c.in-Some.ensures c.loop-slot.invariant.1,
)

pub fits_slots-returns : goal.fits_slots-returns
fits_slots-returns t c =
    c.is_empty.ensures ∙ sym (c.loop-slot.invariant.1 ∙ slots_end c.as_slice-slot-items.result.now c.loop-slot.slot-index c.loop-slot.number c.loop-slot.rest.now c.loop-slot-test.false)
