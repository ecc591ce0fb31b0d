use Rattle.std.proofs.Common.{◌≡◌, ◌+◌, drop}
use Rattle.ax_format.specs.Lengths.{capped, entries_octets, last_slot, slot_kind}
use Rattle.ax_format.specs.Plain.{entries_tree, slots_tree}
use Rattle.ax_expand.proofs.encode.octets_of_content.Given as goal

abbrev pub invariant-loop-entry : goal.invariant-loop-entry
invariant-loop-entry l =
    (capped (l.total + entries_octets (entries_tree (drop l.entry-index l.entry-items)) (slot_kind (slots_tree l.slots))) ≡ capped (entries_octets (entries_tree l.entries) (slot_kind (slots_tree l.slots))))
    × (last_slot l.last (entries_tree (drop l.entry-index l.entry-items)) ≡ last_slot 1 (entries_tree l.entries))
