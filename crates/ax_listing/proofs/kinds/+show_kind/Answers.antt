use denote.Param.Weighed.{at_most}
use mir.Syntax.{named}
use Rattle.ax_held_kinds.proofs.kinds.HeldSlot.TheLaws.{the_size}
use Rattle.std.proofs.Common.{◌≡◌, ◌+◌, ◌-◌, ◌<◌, ℕ, List, [], length, map, get_or, codes, ap, arith, subst, sym, ◌∙◌}
use Rattle.std.proofs.lemmas.List.{length-map}
use Rattle.ax_format.proofs.Bounds.{count_of_slots}
use Rattle.ax_held_kinds.specs.Fields.{MarksOf, FailsToMarkOf}
use Rattle.ax_held_kinds.specs.declared.kinds.HeldSlot.{HeldSlot}
use Rattle.ax_held_kinds.specs.Held.{held_kind, held_slot, held_slots}
use Rattle.ax_format.specs.Tree.{SlotTree, counted, compound, slots_of, slot_count}
use Rattle.ax_fspec.proofs.Counting.{counted_none}
use Rattle.ax_fspec.proofs.Marking.{field_failed, map_at, slot_bounds}
use Rattle.ax_fspec.specs.Reading.{FailsAt, kind_read}
use Rattle.ax_text_form.proofs.ListedKinds.{slot_listable}
use Rattle.ax_text_form.specs.Listable.{SlotListable}
use Rattle.ax_values.proofs.Continuing.{err_by_fault, err_is}
use Rattle.ax_values.specs.SlotReading.{HasSlotFailed}
use Rattle.ax_listing.specs.Shown.{IsSlotShown}
use Rattle.ax_listing.proofs.CountedLines.{CountShown, count_first, count_next, count_last, count_failed}
use Rattle.ax_listing.proofs.Leading.{counted_shown, counted_longer}
use Rattle.ax_listing.proofs.MarkedLines.{compound_done, compound_first, next_slot, marks_next, marks_last, marks_failed, at_number}
use Rattle.ax_listing.proofs.kinds.+show_kind.Goals as goal

pub show_counted-set_count-requires : goal.show_counted-set_count-requires
show_counted-set_count-requires t c =
    counted_longer (counted c.args.size (held_kind c.args.inner.now)) c.args.path.now (codes "occurrences") c.args.from.body.now c.args.from.at c.in_ok-end.end c.len-line.result c.args.lister.now.out.octets c.none_of.new.self.out.octets c.show_each.new.lister.out.octets c.in_ok-end.count c.in_ok-none_of.ensures c.len-line.ensures c.in_ok-end.ensures.ok

pub show_counted-returns-clause-ok : goal.show_counted-returns-clause-ok
show_counted-returns-clause-ok t c =
    counted_shown (counted c.args.size (held_kind c.args.inner.now)) c.args.path.now (codes "occurrences") c.args.from.body.now c.args.from.at c.in_ok-end.end c.len-line.result c.args.lister.now.out.octets c.none_of.new.self.out.octets c.show_each.new.lister.out.octets c.set_count.new.self.out.octets c.in_ok-end.count
    c.in_ok-none_of.ensures c.len-line.ensures c.in_ok-end.ensures.ok c.in_ok-set_count.ensures

pub show_compound-set_count-requires : goal.show_compound-set_count-requires
show_compound-set_count-requires t c =
    counted_longer (compound (held_slots c.args.slots.now)) c.args.path.now (codes "subitems") c.args.from.body.now c.args.from.at c.in_ok-end.end c.len-line.result c.args.lister.now.out.octets c.none_of.new.self.out.octets c.show_subitems.new.lister.out.octets c.in_ok-end.count c.in_ok-none_of.ensures c.len-line.ensures c.in_ok-end.ensures.ok

pub show_compound-returns-clause-ok : goal.show_compound-returns-clause-ok
show_compound-returns-clause-ok t c =
    counted_shown (compound (held_slots c.args.slots.now)) c.args.path.now (codes "subitems") c.args.from.body.now c.args.from.at c.in_ok-end.end c.len-line.result c.args.lister.now.out.octets c.none_of.new.self.out.octets c.show_subitems.new.lister.out.octets c.set_count.new.self.out.octets c.in_ok-end.count
    c.in_ok-none_of.ensures c.len-line.ensures c.in_ok-end.ensures.ok c.in_ok-set_count.ensures

-- ---- occurrences

pub show_each-returns-in_err-count-clause-err : goal.show_each-returns-in_err-count-clause-err
show_each-returns-in_err-count-clause-err t c =
    let k = held_kind c.args.inner.now in
    let fault = c.in_err-count.field-0.0 in
    err_by_fault (kind_read (counted c.args.size k) c.args.from.body.now c.args.from.at) c.args.from.at c.from_residual.result fault c.from_residual.ensures.1
    (counted_none c.args.size k c.args.from.body.now c.args.from.at fault c.in_err-count.ensures.short (ap (λ f. f.cause) c.in_err-count.ensures.fault) (ap (λ f. f.bit) c.in_err-count.ensures.fault))

pub show_each-loop-number-init : goal.show_each-loop-number-init
show_each-loop-number-init t c =
    let k = held_kind c.args.inner.now in
    let out = c.args.lister.now.out.octets in
    subst (λ m. CountShown c.args.size k c.args.path.now c.args.from.body.now c.in_ok-count.count 0 c.args.from.at (c.args.from.at + m) out out) (sym c.octets.ensures)
    (count_first c.args.size k c.args.path.now c.args.from.body.now c.in_ok-count.count c.args.from.at out c.in_ok-count.ensures.count)

pub show_each-returns-in_err-here-clause-err : goal.show_each-returns-in_err-here-clause-err
show_each-returns-in_err-here-clause-err t c =
    let k = held_kind c.args.inner.now in
    let e = c.in_err-here.field-0.0 in
    err_is (kind_read (counted c.args.size k) c.args.from.body.now c.args.from.at) c.args.from.at c.from_residual-in_err-here.result e c.from_residual-in_err-here.ensures.1
    (count_failed c.args.size k c.args.path.now c.args.from.body.now c.in_ok-count.count c.loop-number.number c.args.from.at c.loop-number.here c.args.lister.now.out.octets c.loop-number.lister.out.octets e c.loop-number.invariant c.loop-number-test.true c.in_err-here.ensures.err)

pub show_each-loop-number-preserved : goal.show_each-loop-number-preserved
show_each-loop-number-preserved t c =
    count_next c.args.size (held_kind c.args.inner.now) c.args.path.now c.args.from.body.now c.in_ok-count.count c.loop-number.number c.args.from.at c.loop-number.here c.in_ok-here.here c.set_numbered.new.inner c.args.lister.now.out.octets c.loop-number.lister.out.octets c.show_value.new.lister.out.octets
    c.loop-number.invariant c.loop-number-test.true c.in_ok-set_numbered.ensures c.in_ok-here.ensures.ok

pub show_each-returns-clause-ok : goal.show_each-returns-clause-ok
show_each-returns-clause-ok t c =
    count_last c.args.size (held_kind c.args.inner.now) c.args.path.now c.args.from.body.now c.in_ok-count.count c.loop-number.number c.args.from.at c.loop-number.here c.args.lister.now.out.octets c.loop-number.lister.out.octets c.loop-number.invariant c.loop-number-test.false

-- ---- subitems

pub show_subitems-read_field-requires-clause-slots : goal.show_subitems-read_field-requires-clause-slots
show_subitems-read_field-requires-clause-slots t c =
    let size : slot_count (slots_of (map held_slot c.args.slots.now)) ≡ length c.args.slots.now = count_of_slots (map held_slot c.args.slots.now) ∙ length-map c.args.slots.now held_slot in
    let same = ap length c.as_slice-all.ensures.members in
    (omega (arith, c.requires.bounds.0, same), omega (arith, c.requires.bounds.1, same))

pub show_subitems-returns-in_err-here-clause-err : goal.show_subitems-returns-in_err-here-clause-err
show_subitems-returns-in_err-here-clause-err t c =
    let slots : List SlotTree = map held_slot c.args.slots.now in
    let fault = c.in_err-here.field-0.0 in
    let f = subst (λ xs. FailsToMarkOf (map held_slot xs) c.args.from.body.now c.args.from.at fault) c.as_slice-all.ensures.members c.in_err-here.ensures.err in
    err_by_fault (kind_read (compound (slots_of slots)) c.args.from.body.now c.args.from.at) c.args.from.at c.from_residual.result fault c.from_residual.ensures.1
    (field_failed slots f.mask c.args.from.body.now c.args.from.at fault f.is f.fails)

pub show_subitems-loop-number-init : goal.show_subitems-loop-number-init
show_subitems-loop-number-init t c =
    let m = subst (λ xs. MarksOf (map held_slot xs) c.args.from.body.now c.args.from.at c.in_ok-here.here c.read_field.new.into) c.as_slice-all.ensures.members c.in_ok-here.ensures.ok in
    compound_first (map held_slot c.args.slots.now) m.mask c.args.path.now c.args.from.body.now c.read_field.new.into c.args.from.at c.in_ok-here.here c.args.lister.now.out.octets c.requires.bounds m.is m.marks

pub show_subitems-bounds-all-number : goal.show_subitems-bounds-all-number
show_subitems-bounds-all-number t c =
    let all = c.args.slots.now in
    let h = c.loop-number.invariant in
    let n = next_slot (map held_slot all) c.loop-number.left c.take_first.new.self _ c.in-Some.number h.clear h.are_bits c.in-Some.ensures.some c.in-Some.ensures.marks in
    omega (arith, n.within, length-map all held_slot, ap length c.as_slice-all.ensures.members)

pub show_subitems-show_slot-requires : goal.show_subitems-show_slot-requires
show_subitems-show_slot-requires t c =
    let all = c.args.slots.now in
    let h = c.loop-number.invariant in
    let number : ℕ = c.in-Some.number in
    let n = next_slot (map held_slot all) c.loop-number.left c.take_first.new.self _ number h.clear h.are_bits c.in-Some.ensures.some c.in-Some.ensures.marks in
    let s = c.index-all-number.result in
    let same = c.as_slice-all.ensures.members in
    let within : number - 1 < length all = omega (arith, n.within, length-map all held_slot) in
    let is : s ≡ get_or all (number - 1) s = subst (λ xs. s ≡ get_or xs (number - 1) s) same c.index-all-number.is in
    let size : HeldSlot → ℕ = the_size (record { mir = named 2; lft = [] }) in
    let small = at_most size all (number - 1) s within in
    let same_size : size s ≡ size (get_or all (number - 1) s) = ap size is in (
      omega (arith, small, same_size, c.decreases),
      (
        slot_bounds (map held_slot all) (number - 1) (held_slot s) c.requires.bounds.2 (omega (arith, within, length-map all held_slot)) (map_at held_slot all (number - 1) s is),
        subst SlotListable (at_number all number s c.in-Some.ensures.within.0 within is) (slot_listable (held_slots all) number c.requires.listable),
      ),
    )

pub show_subitems-returns-in_err-here-2-clause-err : goal.show_subitems-returns-in_err-here-2-clause-err
show_subitems-returns-in_err-here-2-clause-err t c =
    let all = c.args.slots.now in
    let slots : List SlotTree = map held_slot all in
    let body = c.args.from.body.now in
    let path = c.args.path.now in
    let h = c.loop-number.invariant in
    let number : ℕ = c.in-Some.number in
    let n = next_slot slots c.loop-number.left c.take_first.new.self _ number h.clear h.are_bits c.in-Some.ensures.some c.in-Some.ensures.marks in
    let s = c.index-all-number.result in
    let within : number - 1 < length all = omega (arith, n.within, length-map all held_slot) in
    let is : s ≡ get_or all (number - 1) s = subst (λ xs. s ≡ get_or xs (number - 1) s) c.as_slice-all.ensures.members c.index-all-number.is in
    let e = c.in_err-here-2.field-0.0 in
    err_is (kind_read (compound (slots_of slots)) body c.args.from.at) c.args.from.at c.from_residual-in_err-here-2.result e c.from_residual-in_err-here-2.ensures.1
    (record {
      met = marks_failed (compound_done slots path body c.args.from.at c.args.lister.now.out.octets) (FailsAt (kind_read (compound (slots_of slots)) body c.args.from.at) c.args.from.at) slots path c.loop-number.left c.take_first.new.self body number c.loop-number.here c.loop-number.lister.out.octets c.loop-number.count h n e
          (subst (λ slot. HasSlotFailed slot body c.loop-number.here e) (sym (at_number all number s c.in-Some.ensures.within.0 within is)) c.in_err-here-2.ensures.err);
    })

pub show_subitems-loop-number-preserved : goal.show_subitems-loop-number-preserved
show_subitems-loop-number-preserved t c =
    let all = c.args.slots.now in
    let slots : List SlotTree = map held_slot all in
    let body = c.args.from.body.now in
    let path = c.args.path.now in
    let h = c.loop-number.invariant in
    let number : ℕ = c.in-Some.number in
    let n = next_slot slots c.loop-number.left c.take_first.new.self _ number h.clear h.are_bits c.in-Some.ensures.some c.in-Some.ensures.marks in
    let s = c.index-all-number.result in
    let within : number - 1 < length all = omega (arith, n.within, length-map all held_slot) in
    let is : s ≡ get_or all (number - 1) s = subst (λ xs. s ≡ get_or xs (number - 1) s) c.as_slice-all.ensures.members c.index-all-number.is in
    marks_next (compound_done slots path body c.args.from.at c.args.lister.now.out.octets) (FailsAt (kind_read (compound (slots_of slots)) body c.args.from.at) c.args.from.at) slots path c.loop-number.left c.take_first.new.self body number c.loop-number.here c.loop-number.lister.out.octets c.loop-number.count h n
    c.in_ok-here-2.here c.show_slot.new.lister.out.octets c.in-Some.ensures.some
    (subst (λ slot. IsSlotShown slot path body c.loop-number.here c.in_ok-here-2.here c.loop-number.lister.out.octets c.show_slot.new.lister.out.octets) (sym (at_number all number s c.in-Some.ensures.within.0 within is)) c.in_ok-here-2.ensures.ok)

pub show_subitems-returns-clause-ok : goal.show_subitems-returns-clause-ok
show_subitems-returns-clause-ok t c =
    let slots : List SlotTree = map held_slot c.args.slots.now in
    let body = c.args.from.body.now in
    marks_last (compound_done slots c.args.path.now body c.args.from.at c.args.lister.now.out.octets) (FailsAt (kind_read (compound (slots_of slots)) body c.args.from.at) c.args.from.at) slots c.args.path.now c.loop-number.left body c.loop-number.here c.loop-number.lister.out.octets c.loop-number.count c.loop-number.invariant
    c.in_default.ensures.none
