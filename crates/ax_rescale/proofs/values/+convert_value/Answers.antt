use Rattle.std.proofs.Common.{rules, ◌+◌, length, ap, arith}
use Rattle.std.proofs.lemmas.List.{drop_all, length_push}
use Rattle.ax_format.proofs.Namings.{from_place}
use Rattle.ax_format.specs.Plain.{slots_tree}
use Rattle.ax_rescale.proofs.EachSteps.{each_ready, each_made, each_none, each_all}
use Rattle.ax_rescale.proofs.EntrySteps.{spare_step, sub_empty, sub_later, spare_is, sub_is, step_as, slot_ready, slot_made, slot_none, entries_all, no_slot_left, slots_too_many, one_more}
use Rattle.ax_rescale.proofs.GroupSteps.{if_some, if_none, match_some, match_none}
use Rattle.ax_rescale.proofs.CountedKinds.{none_inner, made_inner, scaled_inner, shape_inner}
use Rattle.ax_rescale.proofs.Weights.{weights, inner_weight, member_weight}
use Rattle.ax_rescale.proofs.values.+convert_value.Goals as goal
use Rattle.ax_rescale.proofs.values.+convert_value.Goals.{convert_slot-in_default-split_first-via-in-Some+else-from-slots, convert_slot-in_default-split_first-via-in_default-split_first}

-- ---- occurrences

pub convert_each-convert_value-requires : goal.convert_each-convert_value-requires
convert_each-convert_value-requires t c =
    (omega arith, (c.requires.old, (c.requires.new, each_ready _ _ _ _ _ _ _ c.loop-value.invariant.1 (from_place _ _ _ c.loop-value-test.true c.value-item.is))))

pub convert_each-returns-in_default-clause-none : goal.convert_each-returns-in_default-clause-none
convert_each-returns-in_default-clause-none t c =
    each_none _ _ _ _ _ _ _ c.loop-value.invariant.1 (from_place _ _ _ c.loop-value-test.true c.value-item.is) (if_none _ c.in_ok-one.field-0 c.in_default.is c.in_ok-one.ensures.none)

pub convert_each-loop-value-preserved : goal.convert_each-loop-value-preserved
convert_each-loop-value-preserved t c = (
  omega (arith, ap length c.in_ok-push.ensures.ok, length_push c.loop-value.made c.in-Some.one, c.loop-value.invariant.0),
  each_made _ _ _ _ _ _ _ c.loop-value.invariant.1 (from_place _ _ _ c.loop-value-test.true c.value-item.is) _ _ c.in_ok-push.ensures.ok (if_some _ c.in_ok-one.field-0 _ c.in-Some.is c.in_ok-one.ensures.some),
)

pub convert_each-returns-clause-some : goal.convert_each-returns-clause-some
convert_each-returns-clause-some t c = each_all _ _ _ _ _ c.loop-value.invariant.1 (drop_all _ _ c.loop-value-test.false)

-- ---- one slot

pub convert_slot-returns-in-Spare-Spare : goal.convert_slot-returns-in-Spare-Spare
convert_slot-returns-in-Spare-Spare t c = step_as _ _ _ _ _ _ _ _ _ (spare_is _ c.in-Spare-Spare.is-0) (spare_is _ c.in-Spare-Spare.is-1) (spare_step _ c.args.entries.now c.args.made.now)

-- ---- slots

pub convert_slots-returns-in_default-clause-none : goal.convert_slots-returns-in_default-clause-none
convert_slots-returns-in_default-clause-none t c =
    no_slot_left _ _ _ _ _ _ _ _ _ _ c.loop-slot.invariant.2 (from_place _ _ _ c.loop-slot-test.true c.slot-item.is) c.in_default.ensures.cases

pub convert_slots-convert_slot-requires : goal.convert_slots-convert_slot-requires
convert_slots-convert_slot-requires t c =
    let within = member_weight c.as_slice-slot-items.result.now c.loop-slot.slot-index c.slot-item.result (from_place _ _ _ c.loop-slot-test.true c.slot-item.is) in
    let same_all = ap (λ xs. weights (slots_tree xs)) c.as_slice-slot-items.ensures.members in
    let r = slot_ready _ _ _ _ _ _ _ _ _ _ _ _ c.loop-slot.invariant.2 (from_place _ _ _ c.loop-slot-test.true c.slot-item.is) c.in-Some.ensures.cases.0 in
    (omega (arith, within, same_all), (r.0, (r.1.0, (r.1.1, omega (arith, c.loop-slot.invariant.0, c.loop-slot-test.true, c.as_slice-slot-items.ensures.bound, ap length c.as_slice-slot-items.ensures.members)))))

pub convert_slots-returns-then-is_empty-clause-some : goal.convert_slots-returns-then-is_empty-clause-some
convert_slots-returns-then-is_empty-clause-some t c =
    entries_all _ _ _ _ _ _ _ _ c.loop-slot.invariant.2 (drop_all _ _ c.loop-slot-test.false) (search rules)

pub convert_slots-returns-else-is_empty-clause-none : goal.convert_slots-returns-else-is_empty-clause-none
convert_slots-returns-else-is_empty-clause-none t c =
    slots_too_many _ _ _ _ _ _ _ _ c.loop-slot.invariant.2 (drop_all _ _ c.loop-slot-test.false) (search rules)

pub convert_slots-returns-in_default-2-clause-none : goal.convert_slots-returns-in_default-2-clause-none
convert_slots-returns-in_default-2-clause-none t c =
    slot_none _ _ _ _ _ _ _ _ _ _ _ _ c.loop-slot.invariant.2 (from_place _ _ _ c.loop-slot-test.true c.slot-item.is) c.in-Some.ensures.cases.0 (match_none _ _ c.in_ok-later.field-0 c.in_default-2.is c.in_ok-later.ensures)

pub convert_slots-loop-slot-preserved : goal.convert_slots-loop-slot-preserved
convert_slots-loop-slot-preserved t c =
    let step = match_some _ _ c.in_ok-later.field-0 _ c.in-Some-2.is c.in_ok-later.ensures in (
      one_more _ _ _ _ _ _ _ _ c.loop-slot.invariant.0 step,
      ap (λ n. n + 1) c.loop-slot.invariant.1,
      slot_made _ _ _ _ _ _ _ _ _ _ _ _ c.loop-slot.invariant.2 (from_place _ _ _ c.loop-slot-test.true c.slot-item.is) c.in-Some.ensures.cases.0 _ _ step,
    )

-- ---- counted kinds

pub convert_value-returns-in_default-2-clause-none : goal.convert_value-returns-in_default-2-clause-none
convert_value-returns-in_default-2-clause-none t c =
    none_inner _ _ _ _ _ _ _ _ _ _ c.in-Counted-Counted-Repeat.is-0 c.deref.ensures c.in-Counted-Counted-Repeat.is-1 c.deref-in-Counted-Counted-Repeat.ensures c.in-Counted-Counted-Repeat.is-2
    (if_none _ c.in_ok-made-in-Counted-Counted-Repeat.field-0 c.in_default-2.is c.in_ok-made-in-Counted-Counted-Repeat.ensures.none)

pub convert_value-returns-in-Some-clause-some : goal.convert_value-returns-in-Some-clause-some
convert_value-returns-in-Some-clause-some t c =
    made_inner _ _ _ _ _ _ _ _ _ _ _ c.in-Counted-Counted-Repeat.is-0 c.deref.ensures c.in-Counted-Counted-Repeat.is-1 c.deref-in-Counted-Counted-Repeat.ensures c.in-Counted-Counted-Repeat.is-2
    (if_some _ c.in_ok-made-in-Counted-Counted-Repeat.field-0 _ c.in-Some.is c.in_ok-made-in-Counted-Counted-Repeat.ensures.some)

pub convert_slot-returns-in_default-split_first : goal.convert_slot-returns-in_default-split_first
convert_slot-returns-in_default-split_first t c = elim c.in_default-split_first.branch [
  | convert_slot-in_default-split_first-via-in-Some+else-from-slots w ↦ step_as _ _ _ _ _ _ _ _ _ (sub_is _ _ _ c.in-Sub-Sub.is-0) (sub_is _ _ _ c.in-Sub-Sub.is-1) (sub_later _ _ _ _ _ _ _ _ _ w.in-Some.ensures.cases.0 (search rules))
  | convert_slot-in_default-split_first-via-in_default-split_first w ↦ step_as _ _ _ _ _ _ _ _ _ (sub_is _ _ _ c.in-Sub-Sub.is-0) (sub_is _ _ _ c.in-Sub-Sub.is-1) (sub_empty _ _ _ _ _ _ _ w.in_default-split_first.ensures.cases)
]

pub convert_value-convert_each-requires : goal.convert_value-convert_each-requires
convert_value-convert_each-requires t c =
    let inner = inner_weight _ _ _ _ c.in-Counted-Counted-Repeat.is-0 c.deref.ensures in
    (omega (arith, inner), (scaled_inner _ _ _ _ c.in-Counted-Counted-Repeat.is-0 c.deref.ensures c.requires.old, (scaled_inner _ _ _ _ c.in-Counted-Counted-Repeat.is-1 c.deref-in-Counted-Counted-Repeat.ensures c.requires.new, shape_inner _ _ _ _ _ _ c.in-Counted-Counted-Repeat.is-0 c.deref.ensures c.in-Counted-Counted-Repeat.is-2 c.requires.shape)))
