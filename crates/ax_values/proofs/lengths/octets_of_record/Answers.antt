use Rattle.std.proofs.Common.{◌+◌, ◌∙◌, ap}
use Rattle.ax_format.proofs.Counting.{entry_taken, entry_last, entries_done}
use Rattle.ax_format.specs.Lengths.{capped, entries_octets, slot_kind}
use Rattle.ax_format.specs.Plain.{entries_tree, spec_tree}
use Rattle.ax_format.specs.Specification.{record_slots}
use Rattle.ax_values.proofs.lengths.octets_of_record.Goals as goal

pub loop-entry-preserved : goal.loop-entry-preserved
loop-entry-preserved c =
    let kinds = slot_kind (record_slots (spec_tree c.args.items.now.spec.now)) in (
      entry_taken c.as_slice-entry-items.result.now kinds c.loop-entry.entry-index c.entry-item.result c.loop-entry.total c.saturating_add-total.result (entries_octets (entries_tree c.args.one.now.entries) kinds)
          c.loop-entry-test.true c.entry-item.is c.loop-entry.invariant.0
          (c.saturating_add-total.ensures ∙ ap (λ x. capped (c.loop-entry.total + x)) c.octets_of_item.ensures),
      entry_last c.as_slice-entry-items.result.now c.loop-entry.entry-index c.loop-entry.last c.entry-item.result _ c.loop-entry-test.true c.entry-item.is c.loop-entry.invariant.1,
    )

pub returns : goal.returns
returns c =
    let kinds = slot_kind (record_slots (spec_tree c.args.items.now.spec.now)) in
    entries_done c.as_slice-entry-items.result.now kinds c.loop-entry.entry-index c.loop-entry.total c.loop-entry.last (entries_octets (entries_tree c.args.one.now.entries) kinds) _ c.saturating_add.result
    c.loop-entry-test.false c.loop-entry.invariant.0 c.loop-entry.invariant.1
    (c.saturating_add.ensures ∙ ap (λ x. capped (c.loop-entry.total + x)) c.presence_octets_of.ensures)
