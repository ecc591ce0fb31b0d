use Rattle.std.proofs.Common.{◌≡◌, ◌+◌, length, ap, arith, refl, get_or, ◌∙◌, List, ℕ}
use Rattle.std.proofs.lemmas.List.{length_push}
use Rattle.std.proofs.lemmas.Result.{err_from_is_err_and}
use Rattle.ax_format.specs.Plain.{spec_tree}
use Rattle.ax_format.specs.Specification.{record_slots}
use Rattle.ax_format.specs.declared.spec.UapSlot.{UapSlot}
use Rattle.ax_format.specs.declared.value.Entry.{roll-Entry}
use Rattle.ax_block_reader.proofs.EntryWays.{no_entry_read, entry_lacks, entry_read, entry_skipped, close_lacks, entries_read, entry_is}
use Rattle.ax_text_form.proofs.SlotTrees.{uap_from, uap_past}
use Rattle.ax_block_reader.proofs.records.record_entries.Goals as goal

-- the slot at a place of the slice is that of the list
at_place : (slice list : List UapSlot) (i : ℕ) (s : UapSlot) → slice ≡ list → s ≡ get_or slice i s → s ≡ get_or list i s
at_place slice list i s e is = is ∙ ap (λ z. get_or z i s) e

pub loop-slot-init : goal.loop-slot-init
loop-slot-init c = record { read = no_entry_read (record_slots (spec_tree c.args.items.now.spec.now)) _ _ _ c.in_ok-entries.ensures refl c.requires; number = refl; few = omega (arith, ap length c.in_ok-entries.ensures); less = omega arith }

pub returns-in_err-value-clause-gives : goal.returns-in_err-value-clause-gives
returns-in_err-value-clause-gives c =
    let p = err_from_is_err_and c.from_residual-in_err-value.result c.from_residual-in_err-value.ensures.1 in
    let at = uap_from c.args.items.now.spec.now.items c.args.items.now.spec.now.uap c.loop-slot.slot-index c.slot-item.result (omega (arith, ap length (c.as_slice-slot-items.ensures.members ∙ ap (λ s. s.uap) c.spec-spec.ensures))) (at_place _ _ _ _ (c.as_slice-slot-items.ensures.members ∙ ap (λ s. s.uap) c.spec-spec.ensures) c.slot-item.is) in
    rw (p.1, p.2) (entry_lacks (record_slots (spec_tree c.args.items.now.spec.now)) _ _ _ _ at _ _ _ _ _ c.loop-slot.invariant.read c.in_err-value.ensures.named c.in_err-value.ensures.gives)

pub loop-slot-preserved-in_default : goal.loop-slot-preserved-in_default
loop-slot-preserved-in_default c =
    let at = uap_from c.args.items.now.spec.now.items c.args.items.now.spec.now.uap c.loop-slot.slot-index c.slot-item.result (omega (arith, ap length (c.as_slice-slot-items.ensures.members ∙ ap (λ s. s.uap) c.spec-spec.ensures))) (at_place _ _ _ _ (c.as_slice-slot-items.ensures.members ∙ ap (λ s. s.uap) c.spec-spec.ensures) c.slot-item.is) in
    let skipped = rw c.in_default.is at c.in_ok-value.ensures.gives in
    record {
      read = entry_skipped (record_slots (spec_tree c.args.items.now.spec.now)) _ _ _ _ at _ _ _ _ c.loop-slot.invariant.read c.in_ok-value.ensures.named skipped;
      number = omega (arith, c.loop-slot.invariant.number);
      few = omega (arith, c.loop-slot.invariant.few);
      less = omega (arith, c.in_ok-value.ensures.moves, c.loop-slot.invariant.less);
    }

pub loop-slot-preserved : goal.loop-slot-preserved
loop-slot-preserved c =
    let at = uap_from c.args.items.now.spec.now.items c.args.items.now.spec.now.uap c.loop-slot.slot-index c.slot-item.result (omega (arith, ap length (c.as_slice-slot-items.ensures.members ∙ ap (λ s. s.uap) c.spec-spec.ensures))) (at_place _ _ _ _ (c.as_slice-slot-items.ensures.members ∙ ap (λ s. s.uap) c.spec-spec.ensures) c.slot-item.is) in
    let one = rw c.in-Some.is at c.in_ok-value.ensures.gives in
    let pushed = c.in_ok-push.ensures.ok in
    record {
      read = entry_read (record_slots (spec_tree c.args.items.now.spec.now)) _ _ _ _ at _ _ _ _ _ _ _ c.loop-slot.invariant.read c.in_ok-value.ensures.named one (entry_is (c.loop-slot.number + 1) c.in-Some.value) pushed;
      number = omega (arith, c.loop-slot.invariant.number);
      few = omega (arith, ap length pushed, length_push c.loop-slot.entries (roll-Entry (record { slot = c.loop-slot.number + 1; value = c.in-Some.value })), c.loop-slot.invariant.few);
      less = omega (arith, c.in_ok-value.ensures.moves, c.loop-slot.invariant.less);
    }

pub returns-in_err-expect-clause-gives : goal.returns-in_err-expect-clause-gives
returns-in_err-expect-clause-gives c =
    let p = err_from_is_err_and c.from_residual-in_err-expect.result c.from_residual-in_err-expect.ensures.1 in
    rw (p.1, p.2) (close_lacks (record_slots (spec_tree c.args.items.now.spec.now)) _ _ _ _ _ _ _ (uap_past c.args.items.now.spec.now.items c.args.items.now.spec.now.uap c.loop-slot.slot-index (omega (arith, ap length (c.as_slice-slot-items.ensures.members ∙ ap (λ s. s.uap) c.spec-spec.ensures)))) c.loop-slot.invariant.read c.in_err-expect.ensures.reads)

pub returns-clause-gives : goal.returns-clause-gives
returns-clause-gives c =
    entries_read (record_slots (spec_tree c.args.items.now.spec.now)) _ _ _ _ _ _ (uap_past c.args.items.now.spec.now.items c.args.items.now.spec.now.uap c.loop-slot.slot-index (omega (arith, ap length (c.as_slice-slot-items.ensures.members ∙ ap (λ s. s.uap) c.spec-spec.ensures)))) c.loop-slot.invariant.read c.in_ok-expect.ensures.reads.1
