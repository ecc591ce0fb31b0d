use Rattle.std.proofs.Common.{◌≡◌, ◌<◌, ◌≤◌, ◌+◌, ℕ, true, false, length, drop, get_or, arith, ap, sym, subst, refl, rules}
use Rattle.std.proofs.lemmas.Option.{IfSome_then}
use Rattle.ax_text_form.proofs.Printed.{from_place}
use Rattle.ax_text_lines.specs.HeldText.{text_kind, text_slot, text_slots}
use Rattle.ax_printed_lines.specs.Laid.{Leaves}
use Rattle.ax_printed_lines.specs.Printed.{BuildsSlot}
use Rattle.ax_printed_lines.proofs.EntriesBuilt.{EntriesLeft, entries_first, slot_bounds, slot_few, passed_to, entry_passed, entry_taken, entry_passed_by, entry_taken_by, entries_less, entries_ended}
use Rattle.ax_printed_lines.proofs.KindsBuilt.{KindIsBuilt, CountedIsBuilt, EachLeft, fixed_of_kind, explicit_of_kind, extended_of_kind, counted_of_kind, by_fx_of_kind, compound_of_kind, each_first, each_next, each_less, each_done, counted_whole, compound_whole, sub_bounds, sub_built, held_bounds, held_built}
use Rattle.ax_printed_lines.proofs.kinds.+kind_built.Goals as goal

-- ---- kinds

pub kind_built-returns-in-Fixed : goal.kind_built-returns-in-Fixed
kind_built-returns-in-Fixed t c =
    IfSome_then c.held_built.result c.held_built.ensures (λ done. fixed_of_kind c.args.kind.now c.in-Fixed.fixed c.args.cursor.now c.held_built.new.cursor c.args.out.now c.held_built.new.out c.in-Fixed.is)

pub kind_built-returns-in-Explicit : goal.kind_built-returns-in-Explicit
kind_built-returns-in-Explicit t c =
    IfSome_then c.explicit_built.result c.explicit_built.ensures (λ done. explicit_of_kind c.args.kind.now c.args.cursor.now c.explicit_built.new.cursor c.args.out.now c.explicit_built.new.out c.in-Explicit.is)

pub kind_built-returns-else-not-opens : goal.kind_built-returns-else-not-opens
kind_built-returns-else-not-opens t c =
    IfSome_then c.parts_built.result c.parts_built.ensures (λ done. extended_of_kind c.args.kind.now c.in-Extended.last c.in-Extended.parts c.args.cursor.now c.opens.new.self c.parts_built.new.cursor c.args.out.now c.parts_built.new.out c.in-Extended.is (search rules))

pub kind_built-returns-else-not-opens-2 : goal.kind_built-returns-else-not-opens-2
kind_built-returns-else-not-opens-2 t c =
    let inner : c.deref.result.now ≡ c.in-Counted.inner.value = search rules in
    IfSome_then c.counted_built.result c.counted_built.ensures (λ done b.
    counted_of_kind c.args.kind.now c.in-Counted.size c.in-Counted.inner c.args.cursor.now c.opens-in-Counted.new.self c.counted_built.new.cursor c.args.out.now c.counted_built.new.out c.in-Counted.is (search rules)
    (subst (λ k. CountedIsBuilt c.in-Counted.size (text_kind k) c.opens-in-Counted.new.self c.counted_built.new.cursor c.args.out.now c.counted_built.new.out) inner b))

pub kind_built-returns-else-not-opens-3 : goal.kind_built-returns-else-not-opens-3
kind_built-returns-else-not-opens-3 t c =
    IfSome_then c.run_built.result c.run_built.ensures (λ done. by_fx_of_kind c.args.kind.now c.in-ByFx.fixed c.args.cursor.now c.opens-in-ByFx.new.self c.run_built.new.cursor c.args.out.now c.run_built.new.out c.in-ByFx.is (search rules))

pub kind_built-returns-else-not-opens-4 : goal.kind_built-returns-else-not-opens-4
kind_built-returns-else-not-opens-4 t c =
    IfSome_then c.compound_built.result c.compound_built.ensures (λ done. compound_of_kind c.args.kind.now c.in-Compound.slots c.args.cursor.now c.opens-in-Compound.new.self c.compound_built.new.cursor c.args.out.now c.compound_built.new.out c.in-Compound.is (search rules))

-- ---- counted values

pub each_built-loop-count-init : goal.each_built-loop-count-init
each_built-loop-count-init t c = record { built = each_first (text_kind c.args.kind.now) c.args.cursor.now c.args.out.now; few = omega arith; less = omega arith }

pub each_built-returns-then-closes-clause-built : goal.each_built-returns-then-closes-clause-built
each_built-returns-then-closes-clause-built t c =
    each_done (text_kind c.args.kind.now) c.loop-count.count c.args.cursor.now c.loop-count.cursor c.closes.new.self c.args.out.now c.loop-count.out c.loop-count.invariant.built (search rules)

pub each_built-loop-count-preserved : goal.each_built-loop-count-preserved
each_built-loop-count-preserved t c =
    let k = text_kind c.args.kind.now in
    let stays : c.closes.new.self ≡ c.loop-count.cursor = search rules in
    let one : KindIsBuilt k c.loop-count.cursor c.kind_built.new.cursor c.loop-count.out c.kind_built.new.out = subst (λ z. KindIsBuilt k z c.kind_built.new.cursor c.loop-count.out c.kind_built.new.out) stays c.in_ok-kind_built.ensures in
    let built : EachLeft k (c.loop-count.count + 1) c.args.cursor.now c.kind_built.new.cursor c.args.out.now c.kind_built.new.out
    = each_next k c.loop-count.count c.args.cursor.now c.loop-count.cursor c.kind_built.new.cursor c.args.out.now c.loop-count.out c.kind_built.new.out c.loop-count.invariant.built one in
    record { built = built; few = omega (arith, c.loop-count-test.true); less = each_less k (c.loop-count.count + 1) c.args.cursor.now c.kind_built.new.cursor c.args.out.now c.kind_built.new.out built }

pub each_built-returns-clause-built : goal.each_built-returns-clause-built
each_built-returns-clause-built t c =
    each_done (text_kind c.args.kind.now) c.loop-count.count c.args.cursor.now c.loop-count.cursor c.closes-2.new.self c.args.out.now c.loop-count.out c.loop-count.invariant.built (search rules)

pub counted_built-returns : goal.counted_built-returns
counted_built-returns t c =
    IfSome_then c.count_filled.result c.count_filled.ensures (λ done. counted_whole c.args.size (text_kind c.args.kind.now) c.in_ok-count.count c.in_ok-at.at c.args.cursor.now c.each_built.new.cursor c.args.out.now c.leave.new.self c.each_built.new.out c.count_filled.new.out c.in_ok-count.ensures.few (subst (λ n. Leaves c.args.out.now c.leave.new.self c.in_ok-at.at n) c.octets.ensures c.in_ok-at.ensures) c.in_ok-count.ensures.built)

-- ---- a subitem

pub subitem_built-kind_built-requires : goal.subitem_built-kind_built-requires
subitem_built-kind_built-requires t c =
    let less : length c.takes_name.new.self.left < length c.args.cursor.now.left = search rules in
    (omega (arith, less), sub_bounds c.args.slot.now c.in-Sub.name c.in-Sub.kind c.in-Sub.is c.requires)

pub subitem_built-returns-in_ok-kind_built-in-Sub : goal.subitem_built-returns-in_ok-kind_built-in-Sub
subitem_built-returns-in_ok-kind_built-in-Sub t c =
    sub_built c.args.slot.now c.in-Sub.name c.in-Sub.kind c.args.cursor.now c.takes_name.new.self c.kind_built.new.cursor c.args.out.now c.kind_built.new.out c.in-Sub.is (search rules) c.in_ok-kind_built-in-Sub.ensures

pub subitem_built-named_built-requires : goal.subitem_built-named_built-requires
subitem_built-named_built-requires t c = held_bounds c.args.slot.now c.in-Named.held c.in-Named.is c.requires

pub subitem_built-returns-in-Named : goal.subitem_built-returns-in-Named
subitem_built-returns-in-Named t c =
    IfSome_then c.named_built.result c.named_built.ensures (λ came. held_built c.args.slot.now c.in-Named.held came c.args.cursor.now c.named_built.new.cursor c.args.out.now c.named_built.new.out c.in-Named.is)

-- ---- entries

pub entries_built-loop-list-init : goal.entries_built-loop-list-init
entries_built-loop-list-init t c =
    record { built = entries_first (text_slots c.args.slots.now) c.empty-marks.result c.args.cursor.now c.args.out.now c.requires c.empty-marks.ensures; within = omega arith; less = omega arith }

pub entries_built-subitem_built-requires : goal.entries_built-subitem_built-requires
entries_built-subitem_built-requires t c =
    let list = c.args.slots.now in
    let all = text_slots list in
    let i : ℕ = c.in_ok-index.index in
    let s = c.index-list-index.result in
    let same = c.as_slice-list.ensures.members in
    let lt : i < length list = subst (λ xs. i < length xs) same c.in_ok-index.ensures.1 in
    let at = ap text_slots (from_place list i s lt (subst (λ xs. s ≡ get_or xs i s) same c.index-list-index.is)) in
    let later = text_slots (drop (i + 1) list) in
    let here = text_slots (drop i list) in
    let slot = text_slot s in
    let old = c.args.cursor.now in
    let now = c.loop-list.cursor in
    let before = c.args.out.now in
    let mid = c.loop-list.out in
    let ahead = passed_to all text_slot text_slots (λ x xs. refl) list s c.loop-list.marks old now before mid c.loop-list.passed i c.in_ok-index.ensures.0 (omega (arith, lt)) c.loop-list.invariant.built in
    let still : c.closes.new.self ≡ now = search rules in
    let less : length c.closes.new.self.left ≤ length old.left = subst (λ z. length z.left ≤ length old.left) (sym still) c.loop-list.invariant.less in
    (omega (arith, less), slot_bounds all i slot later here at c.loop-list.marks old now before mid ahead)

pub entries_built-mark-requires : goal.entries_built-mark-requires
entries_built-mark-requires t c =
    let list = c.args.slots.now in
    let all = text_slots list in
    let i : ℕ = c.in_ok-index.index in
    let s = c.index-list-index.result in
    let same = c.as_slice-list.ensures.members in
    let lt : i < length list = subst (λ xs. i < length xs) same c.in_ok-index.ensures.1 in
    let at = ap text_slots (from_place list i s lt (subst (λ xs. s ≡ get_or xs i s) same c.index-list-index.is)) in
    let later = text_slots (drop (i + 1) list) in
    let here = text_slots (drop i list) in
    let slot = text_slot s in
    let old = c.args.cursor.now in
    let now = c.loop-list.cursor in
    let before = c.args.out.now in
    let mid = c.loop-list.out in
    let ahead = passed_to all text_slot text_slots (λ x xs. refl) list s c.loop-list.marks old now before mid c.loop-list.passed i c.in_ok-index.ensures.0 (omega (arith, lt)) c.loop-list.invariant.built in
    (omega arith, slot_few all i slot later here at c.loop-list.marks old now before mid ahead)

pub entries_built-loop-list-preserved-then-branch : goal.entries_built-loop-list-preserved-then-branch
entries_built-loop-list-preserved-then-branch t c =
    let list = c.args.slots.now in
    let all = text_slots list in
    let i : ℕ = c.in_ok-index.index in
    let s = c.index-list-index.result in
    let same = c.as_slice-list.ensures.members in
    let lt : i < length list = subst (λ xs. i < length xs) same c.in_ok-index.ensures.1 in
    let at = ap text_slots (from_place list i s lt (subst (λ xs. s ≡ get_or xs i s) same c.index-list-index.is)) in
    let later = text_slots (drop (i + 1) list) in
    let here = text_slots (drop i list) in
    let slot = text_slot s in
    let old = c.args.cursor.now in
    let now = c.loop-list.cursor in
    let before = c.args.out.now in
    let mid = c.loop-list.out in
    let ahead = passed_to all text_slot text_slots (λ x xs. refl) list s c.loop-list.marks old now before mid c.loop-list.passed i c.in_ok-index.ensures.0 (omega (arith, lt)) c.loop-list.invariant.built in
    let next = c.subitem_built.new.cursor in
    let after = c.subitem_built.new.out in
    let still : c.closes.new.self ≡ now = search rules in
    let builds : BuildsSlot slot c.in_ok-subitem_built.field-0 now next mid after = subst (λ z. BuildsSlot slot c.in_ok-subitem_built.field-0 z next mid after) still c.in_ok-subitem_built.ensures in
    let came : c.in_ok-subitem_built.field-0 ≡ true = search rules in
    let built : EntriesLeft all c.mark.new.self (i + 1) later old next before after =
    entry_taken all i slot later here at c.loop-list.marks c.mark.new.self old now next before mid after ahead c.mark.ensures (entry_taken_by slot c.in_ok-subitem_built.field-0 now next mid after came builds) in
    record { built = built; within = omega (arith, lt); less = entries_less all c.mark.new.self (i + 1) later old next before after built }

pub entries_built-loop-list-preserved : goal.entries_built-loop-list-preserved
entries_built-loop-list-preserved t c =
    let list = c.args.slots.now in
    let all = text_slots list in
    let i : ℕ = c.in_ok-index.index in
    let s = c.index-list-index.result in
    let same = c.as_slice-list.ensures.members in
    let lt : i < length list = subst (λ xs. i < length xs) same c.in_ok-index.ensures.1 in
    let at = ap text_slots (from_place list i s lt (subst (λ xs. s ≡ get_or xs i s) same c.index-list-index.is)) in
    let later = text_slots (drop (i + 1) list) in
    let here = text_slots (drop i list) in
    let slot = text_slot s in
    let old = c.args.cursor.now in
    let now = c.loop-list.cursor in
    let before = c.args.out.now in
    let mid = c.loop-list.out in
    let ahead = passed_to all text_slot text_slots (λ x xs. refl) list s c.loop-list.marks old now before mid c.loop-list.passed i c.in_ok-index.ensures.0 (omega (arith, lt)) c.loop-list.invariant.built in
    let next = c.subitem_built.new.cursor in
    let after = c.subitem_built.new.out in
    let still : c.closes.new.self ≡ now = search rules in
    let builds : BuildsSlot slot c.in_ok-subitem_built.field-0 now next mid after = subst (λ z. BuildsSlot slot c.in_ok-subitem_built.field-0 z next mid after) still c.in_ok-subitem_built.ensures in
    let came : c.in_ok-subitem_built.field-0 ≡ false = search rules in
    let stays = entry_passed_by slot c.in_ok-subitem_built.field-0 now next mid after came builds in
    let passed = entry_passed all i slot later here at c.loop-list.marks old now before mid ahead in
    let built : EntriesLeft all c.loop-list.marks (i + 1) later old next before after =
    subst (λ z. EntriesLeft all c.loop-list.marks (i + 1) later old z before after) (sym stays.0) (subst (λ o. EntriesLeft all c.loop-list.marks (i + 1) later old now before o) (sym stays.1) passed) in
    record { built = built; within = omega (arith, lt); less = entries_less all c.loop-list.marks (i + 1) later old next before after built }

pub entries_built-returns : goal.entries_built-returns
entries_built-returns t c =
    let list = c.args.slots.now in
    let p : ℕ = c.loop-list.passed in
    entries_ended (text_slots list) c.loop-list.marks p (text_slots (drop p list)) c.args.cursor.now c.loop-list.cursor c.closes.new.self c.args.out.now c.loop-list.out c.loop-list.invariant.built (search rules)

pub compound_built-returns : goal.compound_built-returns
compound_built-returns t c =
    IfSome_then c.field_filled.result c.field_filled.ensures (λ done. compound_whole (text_slots c.args.slots.now) c.in_ok-marks.marks c.in_ok-at.at c.field_room-room.result c.args.cursor.now c.entries_built.new.cursor c.args.out.now c.leave.new.self c.entries_built.new.out c.field_filled.new.out c.in_ok-at.ensures c.in_ok-marks.ensures)
