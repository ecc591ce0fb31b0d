use Rattle.std.proofs.Common.{◌≡◌, ◌+◌, ◌-◌, get_or, length, arith, rules, ap, subst, ◌∙◌}
use Rattle.ax_format.specs.At.{slot_value}
use Rattle.ax_codec.specs.Meaning.{meanings, linked_slots}
use Rattle.ax_codec.specs.Table.{kind_at}
use Rattle.ax_walk.proofs.Compounds.{slots_bounds}
use Rattle.ax_walk.proofs.EarlyItems.{cleared, early, early_at, early_marks, early_next, early_none, early_place, early_same}
use Rattle.ax_walk.proofs.Found.{Left, left_first, left_next, next_failed, next_found, walked_one}
use Rattle.ax_walk.proofs.MarkedSteps.{within_at}
use Rattle.ax_walk.proofs.Placed.{Passed, passed_first, passed_next, follows}
use Rattle.ax_walk.proofs.finding.find_after.Goals as goal

pub loop-next-init : goal.loop-next-init
loop-next-init c =
    let e = early c.args.codec.now.nodes c.args.slots.now c.args.body.now c.args.at c.requires.bounds c.requires.one c.requires.field c.requires.few in record {
      left = left_first (linked_slots (meanings c.args.codec.now.nodes) c.args.slots.now) (early_marks c.args.body.now c.args.at) c.args.body.now c.args.at c.args.slot e.clear e.are_bits e.within e.some;
      passed = passed_first c.args.codec.now.nodes c.args.slots.now (early_marks c.args.body.now c.args.at) c.args.body.now c.args.at c.args.slot;
    }

pub bounds-slots-next : goal.bounds-slots-next
bounds-slots-next c =
    let one : get_or (early_marks c.args.body.now c.args.at) (c.loop-next.next - 1) 0 ≡ 1 = early_at c.args.body.now c.args.at (c.loop-next.next - 1) (let f = c.requires.field.some in omega arith) (let f = c.requires.field.within in omega arith) (omega (arith, c.requires.slot)) ∙ c.marks_slot.ensures.marked c.if-not-marks_slot.false in
    let n = early_next c.args.codec.now.nodes c.args.slots.now (early_marks c.args.body.now c.args.at) c.args.body.now c.loop-next.next (omega arith) c.args.at c.loop-next.here c.args.slot (slots_bounds c.args.codec.now.nodes c.args.slots.now c.requires.bounds) c.loop-next.invariant.left one in
    n.within

pub walk_of-requires-clause-link : goal.walk_of-requires-clause-link
walk_of-requires-clause-link c =
    let one : get_or (early_marks c.args.body.now c.args.at) (c.loop-next.next - 1) 0 ≡ 1 = early_at c.args.body.now c.args.at (c.loop-next.next - 1) (let f = c.requires.field.some in omega arith) (let f = c.requires.field.within in omega arith) (omega (arith, c.requires.slot)) ∙ c.marks_slot.ensures.marked c.if-not-marks_slot.false in
    let n = early_next c.args.codec.now.nodes c.args.slots.now (early_marks c.args.body.now c.args.at) c.args.body.now c.loop-next.next (omega arith) c.args.at c.loop-next.here c.args.slot (slots_bounds c.args.codec.now.nodes c.args.slots.now c.requires.bounds) c.loop-next.invariant.left one in
    (n.some, within_at (length c.args.codec.now.nodes) c.args.slots.now (c.loop-next.next - 1) 0 c.requires.links n.within)

pub walk_of-requires-clause-bounds : goal.walk_of-requires-clause-bounds
walk_of-requires-clause-bounds c =
    let one : get_or (early_marks c.args.body.now c.args.at) (c.loop-next.next - 1) 0 ≡ 1 = early_at c.args.body.now c.args.at (c.loop-next.next - 1) (let f = c.requires.field.some in omega arith) (let f = c.requires.field.within in omega arith) (omega (arith, c.requires.slot)) ∙ c.marks_slot.ensures.marked c.if-not-marks_slot.false in
    let n = early_next c.args.codec.now.nodes c.args.slots.now (early_marks c.args.body.now c.args.at) c.args.body.now c.loop-next.next (omega arith) c.args.at c.loop-next.here c.args.slot (slots_bounds c.args.codec.now.nodes c.args.slots.now c.requires.bounds) c.loop-next.invariant.left one in
    n.bounds

pub walk_of-requires-clause-at : goal.walk_of-requires-clause-at
walk_of-requires-clause-at c = c.loop-next.invariant.left.within

pub returns-in_err-end-clause-value : goal.returns-in_err-end-clause-value
returns-in_err-end-clause-value c =
    let one : get_or (early_marks c.args.body.now c.args.at) (c.loop-next.next - 1) 0 ≡ 1 = early_at c.args.body.now c.args.at (c.loop-next.next - 1) (let f = c.requires.field.some in omega arith) (let f = c.requires.field.within in omega arith) (omega (arith, c.requires.slot)) ∙ c.marks_slot.ensures.marked c.if-not-marks_slot.false in
    let n = early_next c.args.codec.now.nodes c.args.slots.now (early_marks c.args.body.now c.args.at) c.args.body.now c.loop-next.next (omega arith) c.args.at c.loop-next.here c.args.slot (slots_bounds c.args.codec.now.nodes c.args.slots.now c.requires.bounds) c.loop-next.invariant.left one in
    absurd (next_failed c.args.codec.now.nodes c.args.slots.now (early_marks c.args.body.now c.args.at) (cleared (c.loop-next.next - 1) (early_marks c.args.body.now c.args.at)) (cleared c.loop-next.next (early_marks c.args.body.now c.args.at)) c.args.body.now c.loop-next.next c.args.at c.loop-next.here c.args.slot c.loop-next.invariant.left n c.walk_of.new.notes.fault c.in_err-end.ensures.fault)

pub invariant_of-result : goal.invariant_of-result
invariant_of-result c =
    let one : get_or (early_marks c.args.body.now c.args.at) (c.loop-next.next - 1) 0 ≡ 1 = early_at c.args.body.now c.args.at (c.loop-next.next - 1) (let f = c.requires.field.some in omega arith) (let f = c.requires.field.within in omega arith) (omega (arith, c.requires.slot)) ∙ c.marks_slot.ensures.marked c.if-not-marks_slot.false in
    let n = early_next c.args.codec.now.nodes c.args.slots.now (early_marks c.args.body.now c.args.at) c.args.body.now c.loop-next.next (omega arith) c.args.at c.loop-next.here c.args.slot (slots_bounds c.args.codec.now.nodes c.args.slots.now c.requires.bounds) c.loop-next.invariant.left one in
    record {
      item = record {
        some = n.some;
        within = within_at (length c.args.codec.now.nodes) c.args.slots.now (c.loop-next.next - 1) 0 c.requires.links n.within;
        bounds = n.bounds;
        one = walked_one (kind_at c.args.codec.now.nodes (get_or c.args.slots.now (c.loop-next.next - 1) 0)) c.args.body.now c.loop-next.here c.in_ok-end.end c.in_ok-end.ensures.end.value n.bounds c.in_ok-end.ensures.end.read c.requires.one.few;
      };
    }

pub returns-then-next-slot-clause-value : goal.returns-then-next-slot-clause-value
returns-then-next-slot-clause-value c =
    let one : get_or (early_marks c.args.body.now c.args.at) (c.loop-next.next - 1) 0 ≡ 1 = early_at c.args.body.now c.args.at (c.loop-next.next - 1) (let f = c.requires.field.some in omega arith) (let f = c.requires.field.within in omega arith) (omega (arith, c.requires.slot)) ∙ c.marks_slot.ensures.marked c.if-not-marks_slot.false in
    let n = early_next c.args.codec.now.nodes c.args.slots.now (early_marks c.args.body.now c.args.at) c.args.body.now c.loop-next.next (omega arith) c.args.at c.loop-next.here c.args.slot (slots_bounds c.args.codec.now.nodes c.args.slots.now c.requires.bounds) c.loop-next.invariant.left one in
    next_found c.args.codec.now.nodes c.args.slots.now (early_marks c.args.body.now c.args.at) (cleared (c.loop-next.next - 1) (early_marks c.args.body.now c.args.at)) (cleared c.loop-next.next (early_marks c.args.body.now c.args.at)) c.args.body.now c.loop-next.next c.args.at c.loop-next.here c.args.slot c.loop-next.invariant.left n c.in_ok-end.end c.walk_of.new.notes.least c.in_ok-end.ensures.end c.if-next-slot.true ∙ ap (slot_value c.args.slot) (early c.args.codec.now.nodes c.args.slots.now c.args.body.now c.args.at c.requires.bounds c.requires.one c.requires.field c.requires.few).same

pub returns-then-next-slot-clause-window : goal.returns-then-next-slot-clause-window
returns-then-next-slot-clause-window c =
    let one : get_or (early_marks c.args.body.now c.args.at) (c.loop-next.next - 1) 0 ≡ 1 = early_at c.args.body.now c.args.at (c.loop-next.next - 1) (let f = c.requires.field.some in omega arith) (let f = c.requires.field.within in omega arith) (omega (arith, c.requires.slot)) ∙ c.marks_slot.ensures.marked c.if-not-marks_slot.false in
    let n = early_next c.args.codec.now.nodes c.args.slots.now (early_marks c.args.body.now c.args.at) c.args.body.now c.loop-next.next (omega arith) c.args.at c.loop-next.here c.args.slot (slots_bounds c.args.codec.now.nodes c.args.slots.now c.requires.bounds) c.loop-next.invariant.left one in
    early_place c.args.codec.now.nodes c.args.slots.now c.args.body.now c.args.at c.args.slot _ (early c.args.codec.now.nodes c.args.slots.now c.args.body.now c.args.at c.requires.bounds c.requires.one c.requires.field c.requires.few) (follows c.args.codec.now.nodes c.args.slots.now (early_marks c.args.body.now c.args.at) (cleared (c.loop-next.next - 1) (early_marks c.args.body.now c.args.at)) (cleared c.loop-next.next (early_marks c.args.body.now c.args.at)) c.args.body.now c.loop-next.next c.args.at c.loop-next.here c.args.slot c.loop-next.invariant.left c.loop-next.invariant.passed n c.in_ok-end.end c.walk_of.new.notes.least c.in_ok-end.ensures.end c.if-next-slot.true)

pub loop-next-preserved : goal.loop-next-preserved
loop-next-preserved c =
    let one : get_or (early_marks c.args.body.now c.args.at) (c.loop-next.next - 1) 0 ≡ 1 = early_at c.args.body.now c.args.at (c.loop-next.next - 1) (let f = c.requires.field.some in omega arith) (let f = c.requires.field.within in omega arith) (omega (arith, c.requires.slot)) ∙ c.marks_slot.ensures.marked c.if-not-marks_slot.false in
    let n = early_next c.args.codec.now.nodes c.args.slots.now (early_marks c.args.body.now c.args.at) c.args.body.now c.loop-next.next (omega arith) c.args.at c.loop-next.here c.args.slot (slots_bounds c.args.codec.now.nodes c.args.slots.now c.requires.bounds) c.loop-next.invariant.left one in
    let on : c.loop-next.next ≡ c.loop-next.next + 1 - 1 = omega arith in
    record {
      left = subst (λ k. Left (linked_slots (meanings c.args.codec.now.nodes) c.args.slots.now) (early_marks c.args.body.now c.args.at) (cleared k (early_marks c.args.body.now c.args.at)) c.args.body.now c.args.at c.in_ok-end.end c.args.slot) on (left_next c.args.codec.now.nodes c.args.slots.now (early_marks c.args.body.now c.args.at) (cleared (c.loop-next.next - 1) (early_marks c.args.body.now c.args.at)) (cleared c.loop-next.next (early_marks c.args.body.now c.args.at)) c.args.body.now c.loop-next.next c.args.at c.loop-next.here c.args.slot c.loop-next.invariant.left n c.in_ok-end.end c.walk_of.new.notes.least c.in_ok-end.ensures.end c.if-next-slot.false);
      passed = subst (λ k. Passed c.args.codec.now.nodes c.args.slots.now (early_marks c.args.body.now c.args.at) (cleared k (early_marks c.args.body.now c.args.at)) c.args.body.now c.args.at c.in_ok-end.end c.args.slot) on (passed_next c.args.codec.now.nodes c.args.slots.now (early_marks c.args.body.now c.args.at) (cleared (c.loop-next.next - 1) (early_marks c.args.body.now c.args.at)) (cleared c.loop-next.next (early_marks c.args.body.now c.args.at)) c.args.body.now c.loop-next.next c.args.at c.loop-next.here c.args.slot c.loop-next.invariant.left c.loop-next.invariant.passed n c.in_ok-end.end c.walk_of.new.notes.least c.in_ok-end.ensures.end c.if-next-slot.false);
    }

pub loop-next-preserved-then-not-marks_slot : goal.loop-next-preserved-then-not-marks_slot
loop-next-preserved-then-not-marks_slot c =
    let none : get_or (early_marks c.args.body.now c.args.at) (c.loop-next.next - 1) 0 ≡ 0 = early_at c.args.body.now c.args.at (c.loop-next.next - 1) (let f = c.requires.field.some in omega arith) (let f = c.requires.field.within in omega arith) (omega (arith, c.requires.slot)) ∙ c.marks_slot.ensures.unmarked (search rules) in
    let on : c.loop-next.next ≡ c.loop-next.next + 1 - 1 = omega arith in
    let same : cleared (c.loop-next.next - 1) (early_marks c.args.body.now c.args.at) ≡ cleared (c.loop-next.next + 1 - 1) (early_marks c.args.body.now c.args.at) = early_same c.args.codec.now.nodes c.args.slots.now (early_marks c.args.body.now c.args.at) c.args.body.now c.loop-next.next (omega arith) none ∙ ap (λ k. cleared k (early_marks c.args.body.now c.args.at)) on in
    record {
      left = subst (λ ms. Left (linked_slots (meanings c.args.codec.now.nodes) c.args.slots.now) (early_marks c.args.body.now c.args.at) ms c.args.body.now c.args.at c.loop-next.here c.args.slot) same c.loop-next.invariant.left;
      passed = subst (λ ms. Passed c.args.codec.now.nodes c.args.slots.now (early_marks c.args.body.now c.args.at) ms c.args.body.now c.args.at c.loop-next.here c.args.slot) same c.loop-next.invariant.passed;
    }

pub returns-clause-value : goal.returns-clause-value
returns-clause-value c =
    let all : c.loop-next.next - 1 ≡ c.args.slot = omega (arith, c.loop-next-test.false, c.loop-next.auto.next-end) in
    early_none c.args.codec.now.nodes c.args.slots.now (early_marks c.args.body.now c.args.at) c.args.body.now c.args.at c.loop-next.here c.args.slot (subst (λ k. Left (linked_slots (meanings c.args.codec.now.nodes) c.args.slots.now) (early_marks c.args.body.now c.args.at) (cleared k (early_marks c.args.body.now c.args.at)) c.args.body.now c.args.at c.loop-next.here c.args.slot) all c.loop-next.invariant.left) ∙ ap (slot_value c.args.slot) (early c.args.codec.now.nodes c.args.slots.now c.args.body.now c.args.at c.requires.bounds c.requires.one c.requires.field c.requires.few).same
