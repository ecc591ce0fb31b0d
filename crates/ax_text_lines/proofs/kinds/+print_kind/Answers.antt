use denote.Param.Weighed.{at_most}
use mir.Syntax.{named}
use Rattle.ax_held_kinds.proofs.MarkedSlots.{marks_clear}
use Rattle.ax_held_kinds.specs.Fields.{MarksOf, FailsToMarkOf}
use Rattle.ax_text_lines.proofs.held.TextSlot.TheLaws.{the_size}
use Rattle.std.proofs.Common.{◌≡◌, ◌+◌, ◌-◌, ◌<◌, ℕ, List, [], length, map, get_or, ap, arith, subst, sym, ◌∙◌}
use Rattle.std.proofs.lemmas.List.{length-map}
use Rattle.ax_format.proofs.Bounds.{count_of_slots}
use Rattle.ax_text_lines.specs.HeldText.{text_kind, text_slot}
use Rattle.ax_text_lines.specs.declared.held.TextSlot.{TextSlot}
use Rattle.ax_format.specs.Tree.{SlotTree, counted, compound, slots_of, slot_count}
use Rattle.ax_values.proofs.Continuing.{err_by_fault, err_is}
use Rattle.ax_fspec.proofs.Counting.{counted_none}
use Rattle.ax_text_lines.proofs.Counted.{CountedLeads, counted_opens, counted_goes_on, counted_failed}
use Rattle.ax_fspec.proofs.Marking.{field_failed, map_at, marks_bits, slot_bounds}
use Rattle.ax_text_form.specs.Slots.{slot_numbered}
use Rattle.ax_text_lines.proofs.Marked.{at_number, marks_begin, next_slot, marks_next, marks_failed, marks_last, compound_printed}
use Rattle.ax_text_lines.specs.Prints.{IsSlotPrinted}
use Rattle.ax_values.specs.SlotReading.{HasSlotFailed}
use Rattle.ax_values.proofs.Marking.{compound_failed}
use Rattle.ax_fspec.specs.Reading.{kind_read, entries_at}
use Rattle.ax_text_lines.proofs.kinds.+print_kind.Goals as goal

pub print_counted-loop-init : goal.print_counted-loop-init
print_counted-loop-init t c =
    subst (λ n. CountedLeads c.args.size (text_kind c.args.inner.now) c.args.body.now c.in_ok-count.count 0 c.args.at (c.args.at + n) c.args.line.now.octets c.open.new.self.octets) (sym c.octets.ensures)
    (counted_opens _ _ _ _ _ _ _ c.in_ok-count.ensures.count c.in_ok-open.ensures.appended)

pub print_counted-returns-in_err-count-clause-err : goal.print_counted-returns-in_err-count-clause-err
print_counted-returns-in_err-count-clause-err t c =
    let k = text_kind c.args.inner.now in
    let fault = c.in_err-count.field-0.0 in
    err_by_fault (kind_read (counted c.args.size k) c.args.body.now c.args.at) c.args.at c.from_residual.result fault c.from_residual.ensures.1
    (counted_none c.args.size k c.args.body.now c.args.at fault c.in_err-count.ensures.short (ap (λ f. f.cause) c.in_err-count.ensures.fault) (ap (λ f. f.bit) c.in_err-count.ensures.fault))

pub print_counted-returns-in_err-here-clause-err : goal.print_counted-returns-in_err-here-clause-err
print_counted-returns-in_err-here-clause-err t c =
    let k = text_kind c.args.inner.now in
    let e = c.in_err-here.field-0.0 in
    err_is (kind_read (counted c.args.size k) c.args.body.now c.args.at) c.args.at c.from_residual-in_err-here.result e c.from_residual-in_err-here.ensures.1
    (counted_failed c.args.size k c.args.body.now c.in_ok-count.count c.loop.counter c.args.at c.loop.here c.args.line.now.octets c.loop.line.octets e c.loop.invariant c.loop-test.true c.in_err-here.ensures.err)

pub print_counted-loop-preserved : goal.print_counted-loop-preserved
print_counted-loop-preserved t c =
    counted_goes_on c.args.size (text_kind c.args.inner.now) c.args.body.now c.in_ok-count.count c.loop.counter c.args.at c.loop.here c.in_ok-here.here c.args.line.now.octets c.loop.line.octets c.print_value.new.line.octets c.loop.invariant c.loop-test.true c.in_ok-here.ensures.ok

-- ---- compounds

pub print_compound-read_field-requires-clause-slots : goal.print_compound-read_field-requires-clause-slots
print_compound-read_field-requires-clause-slots t c =
    let size : slot_count (slots_of (map text_slot c.args.slots.now)) ≡ length c.args.slots.now = count_of_slots (map text_slot c.args.slots.now) ∙ length-map c.args.slots.now text_slot in
    let same = ap length c.as_slice-all.ensures.members in
    (omega (arith, c.requires.bounds.0, same), omega (arith, c.requires.bounds.1, same))

pub print_compound-returns-in_err-here-clause-err : goal.print_compound-returns-in_err-here-clause-err
print_compound-returns-in_err-here-clause-err t c =
    let slots : List SlotTree = map text_slot c.args.slots.now in
    let fault = c.in_err-here.field-0.0 in
    let f = subst (λ xs. FailsToMarkOf (map text_slot xs) c.args.body.now c.args.at fault) c.as_slice-all.ensures.members c.in_err-here.ensures.err in
    err_by_fault (kind_read (compound (slots_of slots)) c.args.body.now c.args.at) c.args.at c.from_residual.result fault c.from_residual.ensures.1 (field_failed slots f.mask c.args.body.now c.args.at fault f.is f.fails)

pub print_compound-print_marked-requires : goal.print_compound-print_marked-requires
print_compound-print_marked-requires t c =
    let slots : List SlotTree = map text_slot c.args.slots.now in
    let m = subst (λ xs. MarksOf (map text_slot xs) c.args.body.now c.args.at c.in_ok-here.here c.read_field.new.into) c.as_slice-all.ensures.members c.in_ok-here.ensures.ok in
    (omega (arith, c.decreases), (c.requires.bounds.2, (marks_clear slots m.mask c.args.body.now c.read_field.new.into c.args.at c.in_ok-here.here m.is m.marks, (marks_bits m.mask c.args.body.now c.read_field.new.into c.args.at c.in_ok-here.here m.marks, (c.requires.body, m.marks.within)))))

pub print_compound-returns-in_err-end-clause-err : goal.print_compound-returns-in_err-end-clause-err
print_compound-returns-in_err-end-clause-err t c =
    let slots : List SlotTree = map text_slot c.args.slots.now in
    let e = c.in_err-end.field-0.0 in
    let m = subst (λ xs. MarksOf (map text_slot xs) c.args.body.now c.args.at c.in_ok-here.here c.read_field.new.into) c.as_slice-all.ensures.members c.in_ok-here.ensures.ok in
    err_is (kind_read (compound (slots_of slots)) c.args.body.now c.args.at) c.args.at c.from_residual-in_err-end.result e c.from_residual-in_err-end.ensures.1
    (compound_failed slots m.mask c.args.body.now c.read_field.new.into c.args.at c.in_ok-here.here e m.is m.marks c.in_err-end.ensures.err)

pub print_compound-returns-clause-ok : goal.print_compound-returns-clause-ok
print_compound-returns-clause-ok t c =
    let slots : List SlotTree = map text_slot c.args.slots.now in
    let m = subst (λ xs. MarksOf (map text_slot xs) c.args.body.now c.args.at c.in_ok-here.here c.read_field.new.into) c.as_slice-all.ensures.members c.in_ok-here.ensures.ok in
    compound_printed slots m.mask c.args.body.now c.read_field.new.into c.args.at c.in_ok-here.here c.in_ok-end.end c.args.line.now.octets c.open.new.self.octets c.print_marked.new.line.octets c.close.new.self.octets c.requires.bounds m.is m.marks c.in_ok-open.ensures.appended c.in_ok-end.ensures.ok c.in_ok-close.ensures.appended

-- ---- marked slots

pub print_marked-loop-number-init : goal.print_marked-loop-number-init
print_marked-loop-number-init t c = marks_begin (map text_slot c.args.slots.now) c.args.marked.now c.args.body.now c.args.at c.args.line.now.octets c.requires.clear c.requires.marks c.requires.at

pub print_marked-bounds-all-number : goal.print_marked-bounds-all-number
print_marked-bounds-all-number t c =
    let all = c.args.slots.now in
    let slots : List SlotTree = map text_slot all in
    let h = c.loop-number.invariant in
    let number : ℕ = c.in-Some.number in
    let n = next_slot slots c.loop-number.left c.take_first.new.self _ number h.clear h.are_bits c.in-Some.ensures.some c.in-Some.ensures.marks in
    omega (arith, n.within, length-map all text_slot, ap length c.as_slice-all.ensures.members)

pub print_marked-print_slot-requires : goal.print_marked-print_slot-requires
print_marked-print_slot-requires t c =
    let all = c.args.slots.now in
    let slots : List SlotTree = map text_slot all in
    let h = c.loop-number.invariant in
    let number : ℕ = c.in-Some.number in
    let n = next_slot slots c.loop-number.left c.take_first.new.self _ number h.clear h.are_bits c.in-Some.ensures.some c.in-Some.ensures.marks in
    let s = c.index-all-number.result in
    let same = c.as_slice-all.ensures.members in
    let within : number - 1 < length all = omega (arith, n.within, length-map all text_slot) in
    let is : s ≡ get_or all (number - 1) s = subst (λ xs. s ≡ get_or xs (number - 1) s) same c.index-all-number.is in
    let slot_is : slot_numbered (slots_of slots) number ≡ text_slot s = at_number slots number (text_slot s) c.in-Some.ensures.within.0 n.within (map_at text_slot all (number - 1) s is) in
    let size : TextSlot → ℕ = the_size (record { mir = named 2; lft = [] }) in
    let small = at_most size all (number - 1) s within in
    let same_size : size s ≡ size (get_or all (number - 1) s) = ap size is in
    (omega (arith, small, same_size, c.decreases), (slot_bounds (map text_slot all) (number - 1) (text_slot s) c.requires.bounds (omega (arith, within, length-map all text_slot)) (map_at text_slot all (number - 1) s is), (c.requires.body, h.within)))

pub print_marked-returns-in_err-here-clause-err : goal.print_marked-returns-in_err-here-clause-err
print_marked-returns-in_err-here-clause-err t c =
    let all = c.args.slots.now in
    let slots : List SlotTree = map text_slot all in
    let h = c.loop-number.invariant in
    let number : ℕ = c.in-Some.number in
    let n = next_slot slots c.loop-number.left c.take_first.new.self _ number h.clear h.are_bits c.in-Some.ensures.some c.in-Some.ensures.marks in
    let s = c.index-all-number.result in
    let same = c.as_slice-all.ensures.members in
    let within : number - 1 < length all = omega (arith, n.within, length-map all text_slot) in
    let is : s ≡ get_or all (number - 1) s = subst (λ xs. s ≡ get_or xs (number - 1) s) same c.index-all-number.is in
    let slot_is : slot_numbered (slots_of slots) number ≡ text_slot s = at_number slots number (text_slot s) c.in-Some.ensures.within.0 n.within (map_at text_slot all (number - 1) s is) in
    let body = c.args.body.now in
    let e = c.in_err-here.field-0.0 in
    err_is (entries_at (slots_of slots) c.args.marked.now body c.args.at) c.args.at c.from_residual.result e c.from_residual.ensures.1
    (marks_failed slots c.args.marked.now c.loop-number.left c.take_first.new.self body number c.args.at c.loop-number.here c.args.line.now.octets c.loop-number.line.octets h n e (subst (λ slot. HasSlotFailed slot body c.loop-number.here e) (sym slot_is) c.in_err-here.ensures.err))

pub print_marked-loop-number-preserved : goal.print_marked-loop-number-preserved
print_marked-loop-number-preserved t c =
    let all = c.args.slots.now in
    let slots : List SlotTree = map text_slot all in
    let h = c.loop-number.invariant in
    let number : ℕ = c.in-Some.number in
    let n = next_slot slots c.loop-number.left c.take_first.new.self _ number h.clear h.are_bits c.in-Some.ensures.some c.in-Some.ensures.marks in
    let s = c.index-all-number.result in
    let same = c.as_slice-all.ensures.members in
    let within : number - 1 < length all = omega (arith, n.within, length-map all text_slot) in
    let is : s ≡ get_or all (number - 1) s = subst (λ xs. s ≡ get_or xs (number - 1) s) same c.index-all-number.is in
    let slot_is : slot_numbered (slots_of slots) number ≡ text_slot s = at_number slots number (text_slot s) c.in-Some.ensures.within.0 n.within (map_at text_slot all (number - 1) s is) in
    let body = c.args.body.now in
    marks_next slots c.args.marked.now c.loop-number.left c.take_first.new.self body number c.args.at c.loop-number.here c.args.line.now.octets c.loop-number.line.octets h n c.in_ok-here.here c.print_slot.new.line.octets
    (subst (λ slot. IsSlotPrinted slot body c.loop-number.here c.in_ok-here.here c.loop-number.line.octets c.print_slot.new.line.octets) (sym slot_is) c.in_ok-here.ensures.ok)

pub print_marked-returns-clause-ok : goal.print_marked-returns-clause-ok
print_marked-returns-clause-ok t c =
    marks_last (map text_slot c.args.slots.now) c.args.marked.now c.loop-number.left c.args.body.now c.args.at c.loop-number.here c.args.line.now.octets c.loop-number.line.octets c.loop-number.invariant c.in_default.ensures.none
