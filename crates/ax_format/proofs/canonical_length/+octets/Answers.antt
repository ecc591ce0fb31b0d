use Rattle.std.proofs.Common.{◌+◌, ◌∙◌, ap, arith}
use Rattle.ax_format.proofs.Counting.{value_taken, values_done, entry_taken, entry_last, entries_done}
use Rattle.ax_format.specs.Lengths.{capped, each_octets, entries_octets, slot_kind}
use Rattle.ax_format.specs.Plain.{entries_tree, kind_tree, slots_tree, values_tree}
use Rattle.ax_format.proofs.canonical_length.+octets.Goals as goal

pub octets_of_each-loop-value-preserved : goal.octets_of_each-loop-value-preserved
octets_of_each-loop-value-preserved t c = (
  value_taken c.as_slice-value-items.result.now (kind_tree c.args.kind.now) c.loop-value.value-index c.value-item.result c.loop-value.total c.saturating_add-total.result (each_octets (values_tree c.args.values.now) (kind_tree c.args.kind.now))
      c.loop-value-test.true c.value-item.is c.loop-value.invariant.0
      (c.saturating_add-total.ensures ∙ ap (λ x. capped (c.loop-value.total + x)) c.octets_of.ensures),
  omega arith,
)

pub octets_of_each-returns : goal.octets_of_each-returns
octets_of_each-returns t c = values_done c.as_slice-value-items.result.now (kind_tree c.args.kind.now) c.loop-value.value-index c.loop-value.total _ c.loop-value-test.false c.loop-value.invariant.1 c.loop-value.invariant.0

pub octets_of_entries-loop-entry-preserved : goal.octets_of_entries-loop-entry-preserved
octets_of_entries-loop-entry-preserved t c =
    let kinds = slot_kind (slots_tree c.args.slots.now) in (
      entry_taken c.as_slice-entry-items.result.now kinds c.loop-entry.entry-index c.entry-item.result c.loop-entry.total c.saturating_add-total.result (entries_octets (entries_tree c.args.entries.now) kinds)
          c.loop-entry-test.true c.entry-item.is c.loop-entry.invariant.0
          (c.saturating_add-total.ensures ∙ ap (λ x. capped (c.loop-entry.total + x)) c.octets_of_entry.ensures),
      entry_last c.as_slice-entry-items.result.now c.loop-entry.entry-index c.loop-entry.last c.entry-item.result _ c.loop-entry-test.true c.entry-item.is c.loop-entry.invariant.1,
    )

pub octets_of_entries-returns : goal.octets_of_entries-returns
octets_of_entries-returns t c =
    let kinds = slot_kind (slots_tree c.args.slots.now) in
    entries_done c.as_slice-entry-items.result.now kinds c.loop-entry.entry-index c.loop-entry.total c.loop-entry.last (entries_octets (entries_tree c.args.entries.now) kinds) _ c.saturating_add.result
    c.loop-entry-test.false c.loop-entry.invariant.0 c.loop-entry.invariant.1
    (c.saturating_add.ensures ∙ ap (λ x. capped (c.loop-entry.total + x)) c.presence_octets_of.ensures)
