use Rattle.std.proofs.Common.{◌≡◌, ℕ, List, ◌+◌, ◌-◌, ◌<◌, length, arith, ap, subst, sym, ◌∙◌}
use Rattle.std.proofs.lemmas.List.{length-map}
use Rattle.ax_held_kinds.specs.Held.{held_slot}
use Rattle.ax_format.proofs.Bounds.{record_bounds}
use Rattle.ax_format.specs.Plain.{spec_tree}
use Rattle.ax_format.specs.Specification.{record_kind, record_slots}
use Rattle.ax_format.specs.Tree.{SlotTree, slots_of}
use Rattle.ax_fspec.proofs.Marking.{field_failed}
use Rattle.ax_fspec.specs.Reading.{FailsAt, SlotInBounds, record_slot_list, kind_read}
use Rattle.ax_text_form.proofs.ListedKinds.{slot_listable}
use Rattle.ax_text_form.specs.Listable.{SlotListable}
use Rattle.ax_text_form.specs.Slots.{slot_numbered}
use Rattle.ax_values.proofs.Continuing.{err_by_fault, err_is}
use Rattle.ax_values.specs.SlotReading.{HasSlotFailed}
use Rattle.ax_listing.specs.Shown.{IsSlotShown}
use Rattle.ax_listing.proofs.MarkedLines.{next_slot, marks_next, marks_last, marks_failed, at_number, numbered_bounds}
use Rattle.ax_listing.proofs.RecordLines.{items_done, items_first}
use Rattle.ax_listing.proofs.records.show_items.Goals as goal

pub returns-in_err-here-clause-err : goal.returns-in_err-here-clause-err
returns-in_err-here-clause-err c =
    let spec = spec_tree c.args.items.items.now in
    let fault = c.in_err-here.field-0.0 in
    err_by_fault (kind_read (record_kind spec) c.args.from.body.now c.args.from.at) c.args.from.at c.from_residual.result fault c.from_residual.ensures.1
    (field_failed (record_slot_list spec) c.args.items.mask.now c.args.from.body.now c.args.from.at fault c.requires.mask c.in_err-here.ensures.err)

pub loop-frn-init : goal.loop-frn-init
loop-frn-init c =
    let spec = spec_tree c.args.items.items.now in
    (0, items_first spec c.args.items.mask.now c.args.path.now c.args.from.body.now c.read_presence.new.into c.args.from.at c.in_ok-here.here c.args.lister.now.out.octets (record_bounds spec c.requires.spec) c.requires.mask c.in_ok-here.ensures.ok)

pub bounds-slots-frn : goal.bounds-slots-frn
bounds-slots-frn c =
    let spec = spec_tree c.args.items.items.now in
    let slots : List SlotTree = record_slot_list spec in
    let h = c.loop-frn.invariant.1 in
    let frn : ℕ = c.in-Some.frn in
    let n = next_slot slots c.loop-frn.left c.take_first.new.self _ frn h.clear h.are_bits c.in-Some.ensures.some c.in-Some.ensures.marks in
    omega (arith, n.within, length-map c.slots-slots.result.now held_slot, ap length c.slots-slots.ensures)

pub show_slot-requires-clause-bounds : goal.show_slot-requires-clause-bounds
show_slot-requires-clause-bounds c =
    let spec = spec_tree c.args.items.items.now in
    let slots : List SlotTree = record_slot_list spec in
    let h = c.loop-frn.invariant.1 in
    let frn : ℕ = c.in-Some.frn in
    let n = next_slot slots c.loop-frn.left c.take_first.new.self _ frn h.clear h.are_bits c.in-Some.ensures.some c.in-Some.ensures.marks in
    let all = c.slots-slots.result.now in
    let s = c.index-slots-frn.result in
    let within : frn - 1 < length all = omega (arith, n.within, length-map all held_slot, ap length c.slots-slots.ensures) in
    let slot_is : slot_numbered (slots_of slots) frn ≡ held_slot s = ap (λ xs. slot_numbered (slots_of xs) frn) (sym c.slots-slots.ensures) ∙ at_number all frn s c.in-Some.ensures.within.0 within c.index-slots-frn.is in
    subst SlotInBounds slot_is (numbered_bounds (record_slots spec) frn (record_bounds spec c.requires.spec).2)

pub show_slot-requires-clause-listable : goal.show_slot-requires-clause-listable
show_slot-requires-clause-listable c =
    let spec = spec_tree c.args.items.items.now in
    let slots : List SlotTree = record_slot_list spec in
    let h = c.loop-frn.invariant.1 in
    let frn : ℕ = c.in-Some.frn in
    let n = next_slot slots c.loop-frn.left c.take_first.new.self _ frn h.clear h.are_bits c.in-Some.ensures.some c.in-Some.ensures.marks in
    let all = c.slots-slots.result.now in
    let s = c.index-slots-frn.result in
    let within : frn - 1 < length all = omega (arith, n.within, length-map all held_slot, ap length c.slots-slots.ensures) in
    let slot_is : slot_numbered (slots_of slots) frn ≡ held_slot s = ap (λ xs. slot_numbered (slots_of xs) frn) (sym c.slots-slots.ensures) ∙ at_number all frn s c.in-Some.ensures.within.0 within c.index-slots-frn.is in
    subst SlotListable slot_is (slot_listable (record_slots spec) frn c.requires.listable)

pub returns-in_err-here-2-clause-err : goal.returns-in_err-here-2-clause-err
returns-in_err-here-2-clause-err c =
    let spec = spec_tree c.args.items.items.now in
    let slots : List SlotTree = record_slot_list spec in
    let body = c.args.from.body.now in
    let path = c.args.path.now in
    let h = c.loop-frn.invariant.1 in
    let frn : ℕ = c.in-Some.frn in
    let n = next_slot slots c.loop-frn.left c.take_first.new.self _ frn h.clear h.are_bits c.in-Some.ensures.some c.in-Some.ensures.marks in
    let all = c.slots-slots.result.now in
    let s = c.index-slots-frn.result in
    let within : frn - 1 < length all = omega (arith, n.within, length-map all held_slot, ap length c.slots-slots.ensures) in
    let slot_is : slot_numbered (slots_of slots) frn ≡ held_slot s = ap (λ xs. slot_numbered (slots_of xs) frn) (sym c.slots-slots.ensures) ∙ at_number all frn s c.in-Some.ensures.within.0 within c.index-slots-frn.is in
    let e = c.in_err-here-2.field-0.0 in
    err_is (kind_read (record_kind spec) body c.args.from.at) c.args.from.at c.from_residual-in_err-here-2.result e c.from_residual-in_err-here-2.ensures.1
    (record {
      met = marks_failed (items_done spec path body c.args.from.at c.args.lister.now.out.octets) (FailsAt (kind_read (record_kind spec) body c.args.from.at) c.args.from.at) slots path c.loop-frn.left c.take_first.new.self body frn c.loop-frn.here c.loop-frn.lister.out.octets c.loop-frn.invariant.0 h n e
          (subst (λ slot. HasSlotFailed slot body c.loop-frn.here e) (sym slot_is) c.in_err-here-2.ensures.err);
    })

pub loop-frn-preserved : goal.loop-frn-preserved
loop-frn-preserved c =
    let spec = spec_tree c.args.items.items.now in
    let slots : List SlotTree = record_slot_list spec in
    let body = c.args.from.body.now in
    let path = c.args.path.now in
    let h = c.loop-frn.invariant.1 in
    let frn : ℕ = c.in-Some.frn in
    let n = next_slot slots c.loop-frn.left c.take_first.new.self _ frn h.clear h.are_bits c.in-Some.ensures.some c.in-Some.ensures.marks in
    let all = c.slots-slots.result.now in
    let s = c.index-slots-frn.result in
    let within : frn - 1 < length all = omega (arith, n.within, length-map all held_slot, ap length c.slots-slots.ensures) in
    let slot_is : slot_numbered (slots_of slots) frn ≡ held_slot s = ap (λ xs. slot_numbered (slots_of xs) frn) (sym c.slots-slots.ensures) ∙ at_number all frn s c.in-Some.ensures.within.0 within c.index-slots-frn.is in (
      c.loop-frn.invariant.0 + 1,
      marks_next (items_done spec path body c.args.from.at c.args.lister.now.out.octets) (FailsAt (kind_read (record_kind spec) body c.args.from.at) c.args.from.at) slots path c.loop-frn.left c.take_first.new.self body frn c.loop-frn.here c.loop-frn.lister.out.octets c.loop-frn.invariant.0 h n
          c.in_ok-here-2.here c.show_slot.new.lister.out.octets c.in-Some.ensures.some
          (subst (λ slot. IsSlotShown slot path body c.loop-frn.here c.in_ok-here-2.here c.loop-frn.lister.out.octets c.show_slot.new.lister.out.octets) (sym slot_is) c.in_ok-here-2.ensures.ok),
    )

pub returns-clause-ok : goal.returns-clause-ok
returns-clause-ok c =
    let spec = spec_tree c.args.items.items.now in
    let body = c.args.from.body.now in
    marks_last (items_done spec c.args.path.now body c.args.from.at c.args.lister.now.out.octets) (FailsAt (kind_read (record_kind spec) body c.args.from.at) c.args.from.at) (record_slot_list spec) c.args.path.now c.loop-frn.left body c.loop-frn.here c.loop-frn.lister.out.octets c.loop-frn.invariant.0 c.loop-frn.invariant.1
    c.in_default.ensures.none
