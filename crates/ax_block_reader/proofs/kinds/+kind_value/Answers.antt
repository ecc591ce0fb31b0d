use Rattle.std.proofs.Common.{rules, Ok, true, suc, ◌-◌, ◌≡◌, ◌≤◌, ◌<◌, ◌^◌, ◌+◌, ◌∷◌, ◌++◌, [], length, ap, arith, refl, inr, get_or, ◌∙◌, subst, List, ℕ}
use Rattle.std.proofs.lemmas.List.{length_push}
use Rattle.std.proofs.lemmas.Result.{err_from_is_err_and}
use Rattle.ax_format.specs.Plain.{kind_tree}
use Rattle.ax_format.specs.Widths.{counter_width}
use Rattle.ax_format.specs.declared.kind.Slot.{Slot}
use Rattle.ax_format.specs.declared.value.Entry.{roll-Entry}
use Rattle.ax_block_reader.proofs.KindWays.{fixed_way, fixed_is_read, explicit_way, explicit_is_read, readable_fixed, readable_parts, parts_there, extended_open, extended_inside, extended_is_read, counted_open, counted_inside, counted_is_read, readable_counted, run_open, run_inside, run_is_read, readable_run, compound_open, compound_inside, compound_is_read, sub_way, sub_is_read}
use Rattle.ax_block_reader.proofs.CountedWays.{CountedRead, no_value_read, value_lacks, value_read, counted_cut, counted_ends, counted_lacks}
use Rattle.ax_block_reader.proofs.EntryWays.{no_entry_read, entry_lacks, entry_read, entry_skipped, close_lacks, entries_read, entry_is}
use Rattle.ax_text_form.proofs.SlotTrees.{slots_from, slots_past}
use Rattle.ax_block_reader.proofs.kinds.+kind_value.Goals as goal

pub kind_value-fixed_value-requires : goal.kind_value-fixed_value-requires
kind_value-fixed_value-requires t c = readable_fixed c.args.kind.now _ c.in-Fixed.is c.requires

pub kind_value-returns-in_err-value-in-Fixed-clause-gives : goal.kind_value-returns-in_err-value-in-Fixed-clause-gives
kind_value-returns-in_err-value-in-Fixed-clause-gives t c =
    let p = err_from_is_err_and c.from_residual.result c.from_residual.ensures.1 in
    rw (p.1, p.2) (fixed_way c.args.kind.now _ _ _ _ c.in-Fixed.is c.in_err-value-in-Fixed.ensures.gives)

pub kind_value-returns-in_ok-value-in-Fixed-clause-gives : goal.kind_value-returns-in_ok-value-in-Fixed-clause-gives
kind_value-returns-in_ok-value-in-Fixed-clause-gives t c = fixed_is_read c.args.kind.now _ _ _ _ c.in-Fixed.is c.in_ok-value-in-Fixed.ensures.gives

pub kind_value-returns-in_err-value-in-Explicit-clause-gives : goal.kind_value-returns-in_err-value-in-Explicit-clause-gives
kind_value-returns-in_err-value-in-Explicit-clause-gives t c =
    let p = err_from_is_err_and c.from_residual-in_err-value-in-Explicit.result c.from_residual-in_err-value-in-Explicit.ensures.1 in
    rw (p.1, p.2) (explicit_way c.args.kind.now _ _ _ c.in-Explicit.is c.in_err-value-in-Explicit.ensures.gives)

pub kind_value-returns-in_ok-value-in-Explicit-clause-gives : goal.kind_value-returns-in_ok-value-in-Explicit-clause-gives
kind_value-returns-in_ok-value-in-Explicit-clause-gives t c = explicit_is_read c.args.kind.now _ _ _ c.in-Explicit.is c.in_ok-value-in-Explicit.ensures.gives

pub kind_value-returns-in_err-expect-in-Extended-clause-gives : goal.kind_value-returns-in_err-expect-in-Extended-clause-gives
kind_value-returns-in_err-expect-in-Extended-clause-gives t c =
    let p = err_from_is_err_and c.from_residual-in_err-expect-in-Extended.result c.from_residual-in_err-expect-in-Extended.ensures.1 in
    rw (p.1, p.2) (extended_open c.args.kind.now _ _ _ _ _ c.in-Extended.is c.requires c.in_err-expect-in-Extended.ensures.reads)

pub kind_value-parts_present-requires-clause-some : goal.kind_value-parts_present-requires-clause-some
kind_value-parts_present-requires-clause-some t c = parts_there c.args.kind.now _ _ c.in-Extended.is c.requires

pub kind_value-parts_present-requires-clause-readable : goal.kind_value-parts_present-requires-clause-readable
kind_value-parts_present-requires-clause-readable t c = readable_parts c.args.kind.now _ _ c.in-Extended.is c.requires

pub kind_value-returns-in_err-lists-in-Extended-clause-gives : goal.kind_value-returns-in_err-lists-in-Extended-clause-gives
kind_value-returns-in_err-lists-in-Extended-clause-gives t c =
    let p = err_from_is_err_and c.from_residual-in_err-lists-in-Extended.result c.from_residual-in_err-lists-in-Extended.ensures.1 in
    rw (p.1, p.2) (extended_inside c.args.kind.now _ _ _ _ _ _ c.in-Extended.is c.in_ok-expect-in-Extended.ensures.reads.1 c.in_err-lists-in-Extended.ensures.gives)

pub kind_value-returns-in_ok-lists-in-Extended-clause-gives : goal.kind_value-returns-in_ok-lists-in-Extended-clause-gives
kind_value-returns-in_ok-lists-in-Extended-clause-gives t c = extended_is_read c.args.kind.now _ _ _ _ _ _ c.in-Extended.is c.in_ok-expect-in-Extended.ensures.reads.1 c.in_ok-lists-in-Extended.ensures.gives

pub kind_value-returns-in_err-expect-in-Counted-clause-gives : goal.kind_value-returns-in_err-expect-in-Counted-clause-gives
kind_value-returns-in_err-expect-in-Counted-clause-gives t c =
    let p = err_from_is_err_and c.from_residual-in_err-expect-in-Counted.result c.from_residual-in_err-expect-in-Counted.ensures.1 in
    rw (p.1, p.2) (counted_open c.args.kind.now _ _ _ _ _ c.in-Counted.is c.in_err-expect-in-Counted.ensures.reads)

pub kind_value-counted_values-requires : goal.kind_value-counted_values-requires
kind_value-counted_values-requires t c = (omega (arith, c.in_ok-expect-in-Counted.ensures.moves), readable_counted c.args.kind.now _ _ _ c.in-Counted.is (search rules) c.requires)

pub kind_value-returns-in_err-values-in-Counted-clause-gives : goal.kind_value-returns-in_err-values-in-Counted-clause-gives
kind_value-returns-in_err-values-in-Counted-clause-gives t c =
    let p = err_from_is_err_and c.from_residual-in_err-values-in-Counted.result c.from_residual-in_err-values-in-Counted.ensures.1 in
    rw (p.1, p.2) (counted_inside c.args.kind.now _ _ _ _ _ _ _ c.in-Counted.is (search rules) c.in_ok-expect-in-Counted.ensures.reads.1 c.in_err-values-in-Counted.ensures.gives)

pub kind_value-returns-in_ok-values-in-Counted-clause-gives : goal.kind_value-returns-in_ok-values-in-Counted-clause-gives
kind_value-returns-in_ok-values-in-Counted-clause-gives t c = counted_is_read c.args.kind.now _ _ _ _ _ _ _ c.in-Counted.is (search rules) c.in_ok-expect-in-Counted.ensures.reads.1 c.in_ok-values-in-Counted.ensures.gives

pub kind_value-returns-in_err-expect-in-ByFx-clause-gives : goal.kind_value-returns-in_err-expect-in-ByFx-clause-gives
kind_value-returns-in_err-expect-in-ByFx-clause-gives t c =
    let p = err_from_is_err_and c.from_residual-in_err-expect-in-ByFx.result c.from_residual-in_err-expect-in-ByFx.ensures.1 in
    rw (p.1, p.2) (run_open c.args.kind.now _ _ _ _ c.in-ByFx.is c.in_err-expect-in-ByFx.ensures.reads)

pub kind_value-run_values-requires-clause-readable : goal.kind_value-run_values-requires-clause-readable
kind_value-run_values-requires-clause-readable t c = readable_run c.args.kind.now _ c.in-ByFx.is c.requires

pub kind_value-returns-in_err-values-in-ByFx-clause-gives : goal.kind_value-returns-in_err-values-in-ByFx-clause-gives
kind_value-returns-in_err-values-in-ByFx-clause-gives t c =
    let p = err_from_is_err_and c.from_residual-in_err-values-in-ByFx.result c.from_residual-in_err-values-in-ByFx.ensures.1 in
    rw (p.1, p.2) (run_inside c.args.kind.now _ _ _ _ _ c.in-ByFx.is c.in_ok-expect-in-ByFx.ensures.reads.1 c.in_err-values-in-ByFx.ensures.gives)

pub kind_value-returns-in_ok-values-in-ByFx-clause-gives : goal.kind_value-returns-in_ok-values-in-ByFx-clause-gives
kind_value-returns-in_ok-values-in-ByFx-clause-gives t c = run_is_read c.args.kind.now _ _ _ _ _ c.in-ByFx.is c.in_ok-expect-in-ByFx.ensures.reads.1 c.in_ok-values-in-ByFx.ensures.gives

pub kind_value-returns-in_err-expect-in-Compound-clause-gives : goal.kind_value-returns-in_err-expect-in-Compound-clause-gives
kind_value-returns-in_err-expect-in-Compound-clause-gives t c =
    let p = err_from_is_err_and c.from_residual-in_err-expect-in-Compound.result c.from_residual-in_err-expect-in-Compound.ensures.1 in
    rw (p.1, p.2) (compound_open c.args.kind.now _ _ _ _ c.in-Compound.is c.in_err-expect-in-Compound.ensures.reads)

pub kind_value-returns-in_err-entries-in-Compound-clause-gives : goal.kind_value-returns-in_err-entries-in-Compound-clause-gives
kind_value-returns-in_err-entries-in-Compound-clause-gives t c =
    let p = err_from_is_err_and c.from_residual-in_err-entries-in-Compound.result c.from_residual-in_err-entries-in-Compound.ensures.1 in
    rw (p.1, p.2) (compound_inside c.args.kind.now _ _ _ _ _ c.in-Compound.is c.in_ok-expect-in-Compound.ensures.reads.1 c.in_err-entries-in-Compound.ensures.gives)

pub kind_value-returns-in_ok-entries-in-Compound-clause-gives : goal.kind_value-returns-in_ok-entries-in-Compound-clause-gives
kind_value-returns-in_ok-entries-in-Compound-clause-gives t c = compound_is_read c.args.kind.now _ _ _ _ _ c.in-Compound.is c.in_ok-expect-in-Compound.ensures.reads.1 c.in_ok-entries-in-Compound.ensures.gives

pub subitem-returns-in_err-value-clause-gives : goal.subitem-returns-in_err-value-clause-gives
subitem-returns-in_err-value-clause-gives t c =
    let p = err_from_is_err_and c.from_residual-in_err-value.result c.from_residual-in_err-value.ensures.1 in
    let came : c.in_ok-takes.field-0 ≡ true = search rules in
    rw (p.1, p.2) (inr (sub_way c.args.slot.now _ _ _ _ _ _ _ c.in-Sub.is c.octets.ensures.octets (c.in_ok-takes.ensures.taken (ap Ok came)) c.in_err-value.ensures.gives))

pub subitem-returns-clause-gives : goal.subitem-returns-clause-gives
subitem-returns-clause-gives t c =
    let came : c.in_ok-takes.field-0 ≡ true = search rules in
    sub_is_read c.args.slot.now _ _ _ _ _ _ _ c.in-Sub.is c.octets.ensures.octets (c.in_ok-takes.ensures.taken (ap Ok came)) c.in_ok-value.ensures.gives

-- how many more values the counter can hold
left_one : (bound most n : ℕ) → most + 1 ≡ bound → n ≤ most → bound - n ≡ suc (most - n)
left_one bound most n e le = omega (arith, e, le)

left_two : (bound most n : ℕ) → most + 1 ≡ bound → n < most → bound - n ≡ suc (suc (most - suc n))
left_two bound most n e lt = omega (arith, e, lt)

pub counted_values-loop-alloc-init : goal.counted_values-loop-alloc-init
counted_values-loop-alloc-init t c =
    let none = c.new-values.ensures in
    let bound = 2 ^ counter_width c.args.size in
    let all : bound ≡ bound - length c.new-values.result = omega (arith, ap length none) in
    record {
      read = subst (λ n. CountedRead bound (kind_tree c.args.kind.now) c.new-values.result n c.args.reader.now c.args.reader.now) all (no_value_read bound (kind_tree c.args.kind.now) _ _ _ none refl);
      few = omega (arith, ap length none);
      less = omega arith;
    }

pub counted_values-returns-in_err-takes-clause-gives : goal.counted_values-returns-in_err-takes-clause-gives
counted_values-returns-in_err-takes-clause-gives t c =
    let p = err_from_is_err_and c.from_residual.result c.from_residual.ensures.1 in
    let end = c.in_err-takes.ensures.end in
    let left = left_one (2 ^ counter_width c.args.size) c.greatest-most.result (length c.loop-alloc.values) c.greatest-most.ensures c.loop-alloc.invariant.few in
    rw (p.1, p.2) (counted_cut (2 ^ counter_width c.args.size) (kind_tree c.args.kind.now) _ _ _ _ _ _ _ left c.requires c.loop-alloc.invariant.read end.1 end.2)

pub counted_values-returns-then-branch-clause-gives : goal.counted_values-returns-then-branch-clause-gives
counted_values-returns-then-branch-clause-gives t c =
    let left = left_one (2 ^ counter_width c.args.size) c.greatest-most.result (length c.loop-alloc.values) c.greatest-most.ensures c.loop-alloc.invariant.few in
    counted_ends (2 ^ counter_width c.args.size) (kind_tree c.args.kind.now) _ _ _ _ _ _ left c.requires c.loop-alloc.invariant.read (c.in_ok-takes.ensures.taken (ap Ok c.if-branch.true))

pub counted_values-returns-in_err-value-clause-gives : goal.counted_values-returns-in_err-value-clause-gives
counted_values-returns-in_err-value-clause-gives t c =
    let p = err_from_is_err_and c.from_residual-in_err-value.result c.from_residual-in_err-value.ensures.1 in
    let other = c.in_ok-takes.ensures.other (ap Ok c.if-branch.false) in
    let left = left_two (2 ^ counter_width c.args.size) c.greatest-most.result (length c.loop-alloc.values) c.greatest-most.ensures (omega arith) in
    rw (p.1, p.2) (value_lacks (2 ^ counter_width c.args.size) (kind_tree c.args.kind.now) _ _ _ _ _ _ _ _ left c.loop-alloc.invariant.read other.0 other.1 c.in_err-value.ensures.gives)

pub counted_values-loop-alloc-preserved : goal.counted_values-loop-alloc-preserved
counted_values-loop-alloc-preserved t c =
    let pushed : c.push.new.self ≡ c.loop-alloc.values ++ c.in_ok-value.value ∷ [] = c.in_ok-push.ensures.ok in
    let more : length c.push.new.self ≡ length c.loop-alloc.values + 1 = omega (arith, ap length pushed, length_push c.loop-alloc.values c.in_ok-value.value) in
    let other = c.in_ok-takes.ensures.other (ap Ok c.if-branch.false) in
    let bound = 2 ^ counter_width c.args.size in
    let left : bound - length c.loop-alloc.values ≡ suc (bound - length c.push.new.self) = omega (arith, more, c.greatest-most.ensures) in
    record {
      read = value_read bound (kind_tree c.args.kind.now) _ _ c.in_ok-value.value _ _ _ _ _ _ left c.loop-alloc.invariant.read other.0 other.1 c.in_ok-value.ensures.gives pushed;
      few = omega (arith, more);
      less = omega (arith, c.in_ok-value.ensures.moves, c.loop-alloc.invariant.less, ap length other.0);
    }

pub counted_values-returns-in_err-expect-clause-gives : goal.counted_values-returns-in_err-expect-clause-gives
counted_values-returns-in_err-expect-clause-gives t c =
    let p = err_from_is_err_and c.from_residual-in_err-expect.result c.from_residual-in_err-expect.ensures.1 in
    let full : 2 ^ counter_width c.args.size - length c.loop-alloc.values ≡ 1 = omega (arith, c.greatest-most.ensures, c.loop-alloc.invariant.few) in
    rw (p.1, p.2) (counted_lacks (2 ^ counter_width c.args.size) (kind_tree c.args.kind.now) _ _ _ _ _ _ full c.requires c.loop-alloc.invariant.read c.in_err-expect.ensures.reads)

pub counted_values-returns-clause-gives : goal.counted_values-returns-clause-gives
counted_values-returns-clause-gives t c =
    let left = left_one (2 ^ counter_width c.args.size) c.greatest-most.result (length c.loop-alloc.values) c.greatest-most.ensures c.loop-alloc.invariant.few in
    counted_ends (2 ^ counter_width c.args.size) (kind_tree c.args.kind.now) _ _ _ _ _ _ left c.requires c.loop-alloc.invariant.read c.in_ok-expect.ensures.reads.1

-- the slot at a place of the slice is that of the list
at_place : (slice list : List Slot) (i : ℕ) (s : Slot) → slice ≡ list → s ≡ get_or slice i s → s ≡ get_or list i s
at_place slice list i s e is = is ∙ ap (λ z. get_or z i s) e

pub subitems-loop-slot-init : goal.subitems-loop-slot-init
subitems-loop-slot-init t c = record { read = no_entry_read _ _ _ _ c.new-entries.ensures refl c.requires; number = refl; few = omega (arith, ap length c.new-entries.ensures); less = omega arith }

pub subitems-returns-in_err-value-clause-gives : goal.subitems-returns-in_err-value-clause-gives
subitems-returns-in_err-value-clause-gives t c =
    let p = err_from_is_err_and c.from_residual.result c.from_residual.ensures.1 in
    let at = slots_from c.args.slots.now c.loop-slot.slot-index c.slot-item.result (omega (arith, ap length c.as_slice-slot-items.ensures.members)) (at_place _ _ _ _ c.as_slice-slot-items.ensures.members c.slot-item.is) in
    rw (p.1, p.2) (entry_lacks _ _ _ _ _ at _ _ _ _ _ c.loop-slot.invariant.read c.in_err-value.ensures.named c.in_err-value.ensures.gives)

pub subitems-loop-slot-preserved-in_default : goal.subitems-loop-slot-preserved-in_default
subitems-loop-slot-preserved-in_default t c =
    let at = slots_from c.args.slots.now c.loop-slot.slot-index c.slot-item.result (omega (arith, ap length c.as_slice-slot-items.ensures.members)) (at_place _ _ _ _ c.as_slice-slot-items.ensures.members c.slot-item.is) in
    let skipped = rw c.in_default.is at c.in_ok-value.ensures.gives in
    record {
      read = entry_skipped _ _ _ _ _ at _ _ _ _ c.loop-slot.invariant.read c.in_ok-value.ensures.named skipped;
      number = omega (arith, c.loop-slot.invariant.number);
      few = omega (arith, c.loop-slot.invariant.few);
      less = omega (arith, c.in_ok-value.ensures.moves, c.loop-slot.invariant.less);
    }

pub subitems-loop-slot-preserved : goal.subitems-loop-slot-preserved
subitems-loop-slot-preserved t c =
    let at = slots_from c.args.slots.now c.loop-slot.slot-index c.slot-item.result (omega (arith, ap length c.as_slice-slot-items.ensures.members)) (at_place _ _ _ _ c.as_slice-slot-items.ensures.members c.slot-item.is) in
    let one = rw c.in-Some.is at c.in_ok-value.ensures.gives in
    let pushed = c.in_ok-push.ensures.ok in
    record {
      read = entry_read _ _ _ _ _ at _ _ _ _ _ _ _ c.loop-slot.invariant.read c.in_ok-value.ensures.named one (entry_is (c.loop-slot.number + 1) c.in-Some.value) pushed;
      number = omega (arith, c.loop-slot.invariant.number);
      few = omega (arith, ap length pushed, length_push c.loop-slot.entries (roll-Entry (record { slot = c.loop-slot.number + 1; value = c.in-Some.value })), c.loop-slot.invariant.few);
      less = omega (arith, c.in_ok-value.ensures.moves, c.loop-slot.invariant.less);
    }

pub subitems-returns-in_err-expect-clause-gives : goal.subitems-returns-in_err-expect-clause-gives
subitems-returns-in_err-expect-clause-gives t c =
    let p = err_from_is_err_and c.from_residual-in_err-expect.result c.from_residual-in_err-expect.ensures.1 in
    rw (p.1, p.2) (close_lacks _ _ _ _ _ _ _ _ (slots_past c.args.slots.now c.loop-slot.slot-index (omega (arith, ap length c.as_slice-slot-items.ensures.members))) c.loop-slot.invariant.read c.in_err-expect.ensures.reads)

pub subitems-returns-clause-gives : goal.subitems-returns-clause-gives
subitems-returns-clause-gives t c = entries_read _ _ _ _ _ _ _ (slots_past c.args.slots.now c.loop-slot.slot-index (omega (arith, ap length c.as_slice-slot-items.ensures.members))) c.loop-slot.invariant.read c.in_ok-expect.ensures.reads.1
