use Rattle.std.proofs.Common.{◌≡◌, ◌≤◌, ◌+◌, drop}
use Rattle.ax_format.specs.Lengths.{capped, each_octets, entries_octets, last_slot, slot_kind}
use Rattle.ax_format.specs.Plain.{entries_tree, kind_tree, slots_tree, values_tree}
use Rattle.ax_format.proofs.canonical_length.+octets.Given as goal

abbrev pub invariant-octets_of_each-loop-value : goal.invariant-octets_of_each-loop-value
invariant-octets_of_each-loop-value l =
    (capped (l.total + each_octets (values_tree (drop l.value-index l.value-items)) (kind_tree l.kind)) ≡ capped (each_octets (values_tree l.values) (kind_tree l.kind))) × (l.total ≤ 18446744073709551615)

abbrev pub invariant-octets_of_entries-loop-entry : goal.invariant-octets_of_entries-loop-entry
invariant-octets_of_entries-loop-entry l =
    (capped (l.total + entries_octets (entries_tree (drop l.entry-index l.entry-items)) (slot_kind (slots_tree l.slots))) ≡ capped (entries_octets (entries_tree l.entries) (slot_kind (slots_tree l.slots))))
    × (last_slot l.last (entries_tree (drop l.entry-index l.entry-items)) ≡ last_slot 1 (entries_tree l.entries))
