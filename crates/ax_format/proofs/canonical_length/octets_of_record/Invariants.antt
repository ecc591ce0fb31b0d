use Rattle.std.proofs.Common.{◌≡◌, ◌+◌, drop}
use Rattle.ax_format.specs.Lengths.{capped, entries_octets, last_slot, slot_kind}
use Rattle.ax_format.specs.Plain.{entries_tree, spec_tree}
use Rattle.ax_format.specs.Specification.{record_slots}
use Rattle.ax_format.proofs.canonical_length.octets_of_record.Given as goal

abbrev pub invariant-loop-entry : goal.invariant-loop-entry
invariant-loop-entry l =
    (capped (l.total + entries_octets (entries_tree (drop l.entry-index l.entry-items)) (slot_kind (record_slots (spec_tree l.spec)))) ≡ capped (entries_octets (entries_tree l.one.entries) (slot_kind (record_slots (spec_tree l.spec)))))
    × (last_slot l.last (entries_tree (drop l.entry-index l.entry-items)) ≡ last_slot 1 (entries_tree l.one.entries))
