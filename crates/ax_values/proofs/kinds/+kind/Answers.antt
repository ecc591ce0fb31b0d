use denote.Param.Weighed.{at_most}
use Rattle.ax_format.proofs.kind.Slot.TheLaws.{the_size}
use Rattle.std.proofs.Common.{rules, ◌≡◌, ◌+◌, ◌<◌, ◌≤◌, ℕ, List, true, false, length, map, get_or, ap, arith, refl, subst, sym, ◌∙◌}
use Rattle.std.proofs.lemmas.List.{length-map}
use Rattle.std.proofs.lemmas.Result.{err_from_is_err_and}
use Rattle.ax_format.proofs.Bounds.{count_of_slots}
use Rattle.ax_format.specs.Plain.{kind_tree, slot_tree}
use Rattle.ax_format.specs.Tree.{SlotTree, counted, compound, slots_of, slot_count}
use Rattle.ax_values.proofs.Continuing.{err_by_fault, err_is}
use Rattle.ax_values.proofs.KindWays.{failed_at, extended_is, counted_is, by_fx_is, explicit_is, compound_is, lists_got, values_got, octets_got, entries_got, sub_is, slot_failed, slot_wants, slot_read}
use Rattle.ax_fspec.proofs.Counting.{counted_none}
use Rattle.ax_values.proofs.Counting.{CountedSoFar, counted_more, counted_failed}
use Rattle.ax_fspec.proofs.Marking.{field_failed, map_at, marks_bits, slot_in_bounds}
use Rattle.ax_values.proofs.Marking.{EntriesSoFar, entries_begin, entries_skip, entries_more, entries_failed, entries_all, entries_few, ok_gets, err_failed}
use Rattle.ax_fspec.specs.Reading.{kind_read, entries_at}
use Rattle.ax_values.proofs.kinds.+kind.Goals.{decode_marked-then-has+in_ok-here, decode_marked-else-has}
use Rattle.ax_values.proofs.kinds.+kind.Goals as goal

pub decode_counted-returns-in_err-count-clause-err : goal.decode_counted-returns-in_err-count-clause-err
decode_counted-returns-in_err-count-clause-err t c =
    let k = kind_tree c.args.inner.now in
    let fault = c.in_err-count.field-0.0 in
    err_by_fault (kind_read (counted c.args.size k) c.args.body.now c.args.at) c.args.at c.from_residual.result fault c.from_residual.ensures.1
    (counted_none c.args.size k c.args.body.now c.args.at fault c.in_err-count.ensures.short (ap (λ f. f.cause) c.in_err-count.ensures.fault) (ap (λ f. f.bit) c.in_err-count.ensures.fault))

pub decode_compound-slots_mask-requires : goal.decode_compound-slots_mask-requires
decode_compound-slots_mask-requires t c =
    let size : slot_count (slots_of (map slot_tree c.args.slots.now)) ≡ length c.args.slots.now = count_of_slots (map slot_tree c.args.slots.now) ∙ length-map c.args.slots.now slot_tree in
    (omega (arith, c.requires.bounds.0), omega (arith, c.requires.bounds.1))

pub decode_compound-returns-in_err-here-clause-err : goal.decode_compound-returns-in_err-here-clause-err
decode_compound-returns-in_err-here-clause-err t c =
    let slots : List SlotTree = map slot_tree c.args.slots.now in
    let fault = c.in_err-here.field-0.0 in
    err_by_fault (kind_read (compound (slots_of slots)) c.args.body.now c.args.at) c.args.at c.from_residual.result fault c.from_residual.ensures.1
    (field_failed slots c.slots_mask.result c.args.body.now c.args.at fault c.slots_mask.ensures c.in_err-here.ensures.err)

pub decode_marked-loop-slot-init : goal.decode_marked-loop-slot-init
decode_marked-loop-slot-init t c =
    let slots : List SlotTree = map slot_tree c.args.slots.now in
    record {
      number = refl;
      entries = subst (λ made. EntriesSoFar slots c.args.marked.now c.args.body.now 0 c.args.at c.args.at made) (sym c.new-made.ensures) (entries_begin slots c.args.marked.now c.args.body.now c.args.at c.requires.marks c.requires.at);
    }

pub decode_marked-returns-in_err-here-clause-err : goal.decode_marked-returns-in_err-here-clause-err
decode_marked-returns-in_err-here-clause-err t c =
    let all = c.args.slots.now in
    let slots : List SlotTree = map slot_tree all in
    let i : ℕ = c.loop-slot.slot-index in
    let s = c.slot-item.result in
    let same = c.as_slice-slot-items.ensures.members in
    let within : i < length all = subst (λ xs. i < length xs) same c.loop-slot-test.true in
    let is : s ≡ get_or all i s = subst (λ xs. s ≡ get_or xs i s) same c.slot-item.is in
    let size : length slots ≡ length all = length-map all slot_tree in
    let number = c.loop-slot.invariant.number in
    let e = c.in_err-here.field-0.0 in
    err_is (entries_at (slots_of slots) c.args.marked.now c.args.body.now c.args.at) c.args.at c.from_residual.result e c.from_residual.ensures.1
    (entries_failed slots c.args.marked.now c.args.body.now i (c.loop-slot.number + 1) c.args.at c.loop-slot.here c.loop-slot.made (slot_tree s) e c.loop-slot.invariant.entries (omega arith) (map_at slot_tree all i s is) (omega arith)
    (c.has.ensures.0 c.if-has.true) c.in_err-here.ensures.err)

pub decode_marked-loop-slot-preserved : goal.decode_marked-loop-slot-preserved
decode_marked-loop-slot-preserved t c =
    let all = c.args.slots.now in
    let slots : List SlotTree = map slot_tree all in
    let marks = c.args.marked.now in
    let body = c.args.body.now in
    let i : ℕ = c.loop-slot.slot-index in
    let s = c.slot-item.result in
    let same = c.as_slice-slot-items.ensures.members in
    let within : i < length all = subst (λ xs. i < length xs) same c.loop-slot-test.true in
    let is : s ≡ get_or all i s = subst (λ xs. s ≡ get_or xs i s) same c.slot-item.is in
    let size : length slots ≡ length all = length-map all slot_tree in
    let here : slot_tree s ≡ get_or slots i (slot_tree s) = map_at slot_tree all i s is in
    let number = c.loop-slot.invariant.number in
    let before : EntriesSoFar slots marks body i c.args.at c.loop-slot.here c.loop-slot.made = c.loop-slot.invariant.entries in
    record {
      number = omega arith;
      entries = elim c.if-has.branch [
        | decode_marked-then-has+in_ok-here w ↦
            subst (λ end. EntriesSoFar slots marks body (i + 1) c.args.at end c.if-has.made) (sym w.here-is)
            (subst (λ made. EntriesSoFar slots marks body (i + 1) c.args.at w.in_ok-here.here made) (sym w.made-is)
            (entries_more slots marks body i (c.loop-slot.number + 1) c.args.at c.loop-slot.here w.in_ok-here.here c.loop-slot.made w.decode_slot.new.into (slot_tree s) before (omega arith) here (omega arith) (c.has.ensures.0 w.if-has.true) w.in_ok-here.ensures.ok before.within))
        | decode_marked-else-has w ↦
            subst (λ end. EntriesSoFar slots marks body (i + 1) c.args.at end c.if-has.made) (sym w.here-is)
            (subst (λ made. EntriesSoFar slots marks body (i + 1) c.args.at c.loop-slot.here made) (sym w.made-is)
            (entries_skip slots marks body i (c.loop-slot.number + 1) c.args.at c.loop-slot.here c.loop-slot.made (slot_tree s) before (omega arith) here (omega arith) (λ one. absurd (let yes : c.has.result ≡ true = c.has.ensures.1 one in let e : true ≡ false = sym yes ∙ w.if-has.false in cc))))
      ];
    }

pub decode_marked-returns-clause-ok : goal.decode_marked-returns-clause-ok
decode_marked-returns-clause-ok t c =
    let all = c.args.slots.now in
    let slots : List SlotTree = map slot_tree all in
    let size : length slots ≡ length all = length-map all slot_tree in
    let i : ℕ = c.loop-slot.slot-index in
    let past : length all ≤ i = subst (λ xs. length xs ≤ i) c.as_slice-slot-items.ensures.members c.loop-slot-test.false in
    entries_all slots c.args.marked.now c.args.body.now i c.args.at c.loop-slot.here c.loop-slot.made c.loop-slot.invariant.entries (omega arith)

pub decode_counted-returns-in_err-value-clause-err : goal.decode_counted-returns-in_err-value-clause-err
decode_counted-returns-in_err-value-clause-err t c =
    let k = kind_tree c.args.inner.now in
    let e = c.in_err-value.field-0.0 in
    err_is (kind_read (counted c.args.size k) c.args.body.now c.args.at) c.args.at c.from_residual-in_err-value.result e c.from_residual-in_err-value.ensures.1
    (counted_failed c.args.size k c.args.body.now c.in_ok-count.count c.loop.counter c.args.at c.loop.here c.loop.made e c.loop.invariant c.loop-test.true c.in_err-value.ensures.err)

pub decode_counted-loop-preserved : goal.decode_counted-loop-preserved
decode_counted-loop-preserved t c =
    let k = kind_tree c.args.inner.now in
    let body = c.args.body.now in
    let n : ℕ = c.in_ok-count.count in
    let i : ℕ = c.loop.counter in
    subst (λ made. CountedSoFar c.args.size k body n (i + 1) c.args.at c.in_ok-value.end made) (sym c.in_ok-push.ensures.ok)
    (counted_more c.args.size k body n i c.args.at c.loop.here c.in_ok-value.end c.loop.made c.in_ok-value.value c.loop.invariant c.loop-test.true c.in_ok-value.ensures.ok)

pub decode_compound-returns-clause-ok : goal.decode_compound-returns-clause-ok
decode_compound-returns-clause-ok t c =
    let slots : List SlotTree = map slot_tree c.args.slots.now in
    ok_gets slots c.slots_mask.result c.args.body.now c.read_presence.new.into c.args.at c.in_ok-here.here c.decode_marked.result c.slots_mask.ensures c.in_ok-here.ensures.ok c.decode_marked.ensures.ok

pub decode_compound-returns-clause-err : goal.decode_compound-returns-clause-err
decode_compound-returns-clause-err t c =
    let slots : List SlotTree = map slot_tree c.args.slots.now in
    err_failed slots c.slots_mask.result c.args.body.now c.read_presence.new.into c.args.at c.in_ok-here.here c.decode_marked.result c.slots_mask.ensures c.in_ok-here.ensures.ok c.decode_marked.ensures.err

pub decode_compound-decode_marked-requires : goal.decode_compound-decode_marked-requires
decode_compound-decode_marked-requires t c =
    let size : slot_count (slots_of (map slot_tree c.args.slots.now)) ≡ length c.args.slots.now = count_of_slots (map slot_tree c.args.slots.now) ∙ length-map c.args.slots.now slot_tree in
    (omega (arith, c.decreases), (c.requires.bounds.2, (omega (arith, c.requires.bounds.1), (marks_bits c.slots_mask.result c.args.body.now c.read_presence.new.into c.args.at c.in_ok-here.here c.in_ok-here.ensures.ok, (c.requires.body, c.in_ok-here.ensures.ok.within)))))

pub decode_marked-decode_slot-requires : goal.decode_marked-decode_slot-requires
decode_marked-decode_slot-requires t c =
    let all = c.args.slots.now in
    let i : ℕ = c.loop-slot.slot-index in
    let s = c.slot-item.result in
    let same = c.as_slice-slot-items.ensures.members in
    let within : i < length all = subst (λ xs. i < length xs) same c.loop-slot-test.true in
    let is : s ≡ get_or all i s = subst (λ xs. s ≡ get_or xs i s) same c.slot-item.is in
    let entries : EntriesSoFar (map slot_tree all) c.args.marked.now c.args.body.now i c.args.at c.loop-slot.here c.loop-slot.made = c.loop-slot.invariant.entries in
    let small = at_most the_size all i s within in
    let same_size : the_size s ≡ the_size (get_or all i s) = ap the_size is in
    (omega (arith, small, same_size, c.decreases), (slot_in_bounds all i s c.requires.bounds within is, (c.requires.body, (entries.within, entries_few all c.args.marked.now c.args.body.now i c.args.at c.loop-slot.here c.loop-slot.made entries within c.requires.few))))

-- ---- the arms of a kind

pub decode_value-returns-in_err-lists-in-Extended-clause-err : goal.decode_value-returns-in_err-lists-in-Extended-clause-err
decode_value-returns-in_err-lists-in-Extended-clause-err t c =
    let e = c.in_err-lists-in-Extended.field-0.0 in
    err_is (kind_read (kind_tree c.args.kind.now) c.args.body.now c.args.at) c.args.at c.from_residual.result e c.from_residual.ensures.1
    (failed_at _ _ c.args.body.now c.args.at e (extended_is c.args.kind.now _ _ c.in-Extended.is) c.in_err-lists-in-Extended.ensures.err)

pub decode_value-returns-in_ok-lists-in-Extended-clause-ok : goal.decode_value-returns-in_ok-lists-in-Extended-clause-ok
decode_value-returns-in_ok-lists-in-Extended-clause-ok t c = lists_got _ _ c.in_ok-lists-in-Extended.lists c.args.body.now c.args.at _ (extended_is c.args.kind.now _ _ c.in-Extended.is) c.in_ok-lists-in-Extended.ensures.ok

pub decode_value-returns-in_err-values-in-Counted-clause-err : goal.decode_value-returns-in_err-values-in-Counted-clause-err
decode_value-returns-in_err-values-in-Counted-clause-err t c =
    let e = c.in_err-values-in-Counted.field-0.0 in
    err_is (kind_read (kind_tree c.args.kind.now) c.args.body.now c.args.at) c.args.at c.from_residual-in_err-values-in-Counted.result e c.from_residual-in_err-values-in-Counted.ensures.1
    (failed_at _ _ c.args.body.now c.args.at e (counted_is c.args.kind.now _ _ _ c.in-Counted.is (search rules)) c.in_err-values-in-Counted.ensures.err)

pub decode_value-returns-in_ok-values-in-Counted-clause-ok : goal.decode_value-returns-in_ok-values-in-Counted-clause-ok
decode_value-returns-in_ok-values-in-Counted-clause-ok t c = values_got _ _ c.in_ok-values-in-Counted.values c.args.body.now c.args.at _ (counted_is c.args.kind.now _ _ _ c.in-Counted.is (search rules)) c.in_ok-values-in-Counted.ensures.ok

pub decode_value-returns-in_err-values-in-ByFx-clause-err : goal.decode_value-returns-in_err-values-in-ByFx-clause-err
decode_value-returns-in_err-values-in-ByFx-clause-err t c =
    let e = c.in_err-values-in-ByFx.field-0.0 in
    err_is (kind_read (kind_tree c.args.kind.now) c.args.body.now c.args.at) c.args.at c.from_residual-in_err-values-in-ByFx.result e c.from_residual-in_err-values-in-ByFx.ensures.1
    (failed_at _ _ c.args.body.now c.args.at e (by_fx_is c.args.kind.now _ c.in-ByFx.is) c.in_err-values-in-ByFx.ensures.err)

pub decode_value-returns-in_ok-values-in-ByFx-clause-ok : goal.decode_value-returns-in_ok-values-in-ByFx-clause-ok
decode_value-returns-in_ok-values-in-ByFx-clause-ok t c = values_got _ _ c.in_ok-values-in-ByFx.values c.args.body.now c.args.at _ (by_fx_is c.args.kind.now _ c.in-ByFx.is) c.in_ok-values-in-ByFx.ensures.ok

pub decode_value-returns-in_err-octets-in-Explicit-clause-err : goal.decode_value-returns-in_err-octets-in-Explicit-clause-err
decode_value-returns-in_err-octets-in-Explicit-clause-err t c =
    let e = c.in_err-octets-in-Explicit.field-0.0 in
    err_is (kind_read (kind_tree c.args.kind.now) c.args.body.now c.args.at) c.args.at c.from_residual-in_err-octets-in-Explicit.result e c.from_residual-in_err-octets-in-Explicit.ensures.1
    (failed_at _ _ c.args.body.now c.args.at e (explicit_is c.args.kind.now c.in-Explicit.is) c.in_err-octets-in-Explicit.ensures.err)

pub decode_value-returns-in_ok-octets-in-Explicit-clause-ok : goal.decode_value-returns-in_ok-octets-in-Explicit-clause-ok
decode_value-returns-in_ok-octets-in-Explicit-clause-ok t c = octets_got _ _ c.in_ok-octets-in-Explicit.octets c.args.body.now c.args.at _ (explicit_is c.args.kind.now c.in-Explicit.is) c.in_ok-octets-in-Explicit.ensures.ok

pub decode_value-returns-in_err-entries-in-Compound-clause-err : goal.decode_value-returns-in_err-entries-in-Compound-clause-err
decode_value-returns-in_err-entries-in-Compound-clause-err t c =
    let e = c.in_err-entries-in-Compound.field-0.0 in
    err_is (kind_read (kind_tree c.args.kind.now) c.args.body.now c.args.at) c.args.at c.from_residual-in_err-entries-in-Compound.result e c.from_residual-in_err-entries-in-Compound.ensures.1
    (failed_at _ _ c.args.body.now c.args.at e (compound_is c.args.kind.now _ c.in-Compound.is) c.in_err-entries-in-Compound.ensures.err)

pub decode_value-returns-in_ok-entries-in-Compound-clause-ok : goal.decode_value-returns-in_ok-entries-in-Compound-clause-ok
decode_value-returns-in_ok-entries-in-Compound-clause-ok t c = entries_got _ _ c.in_ok-entries-in-Compound.entries c.args.body.now c.args.at _ (compound_is c.args.kind.now _ c.in-Compound.is) c.in_ok-entries-in-Compound.ensures.ok

-- ---- the entry of a slot

pub decode_slot-returns-in_err-value-in-Sub-clause-err : goal.decode_slot-returns-in_err-value-in-Sub-clause-err
decode_slot-returns-in_err-value-in-Sub-clause-err t c =
    let p = err_from_is_err_and c.from_residual.result c.from_residual.ensures.1 in
    rw (p.1, p.2) (slot_failed (slot_tree c.args.slot.now) _ _ c.args.from.body.now c.args.from.at _ (sub_is c.args.slot.now _ _ c.in-Sub.is) c.in_err-value-in-Sub.ensures.err)

pub decode_slot-returns-in_err-push-in-Sub-clause-err : goal.decode_slot-returns-in_err-push-in-Sub-clause-err
decode_slot-returns-in_err-push-in-Sub-clause-err t c =
    let p = err_from_is_err_and c.from_residual-in_err-push-in-Sub.result c.from_residual-in_err-push-in-Sub.ensures.1 in
    rw p.1 (slot_wants (slot_tree c.args.slot.now) _ _ c.args.from.body.now c.args.from.at _ (sub_is c.args.slot.now _ _ c.in-Sub.is) p.2)

pub decode_slot-returns-in_ok-push-in-Sub-clause-ok : goal.decode_slot-returns-in_ok-push-in-Sub-clause-ok
decode_slot-returns-in_ok-push-in-Sub-clause-ok t c = slot_read (slot_tree c.args.slot.now) _ _ c.args.number c.in_ok-value-in-Sub.value c.args.from.body.now c.args.from.at _ _ _ (sub_is c.args.slot.now _ _ c.in-Sub.is) c.in_ok-value-in-Sub.ensures.ok c.in_ok-push-in-Sub.ensures.ok
