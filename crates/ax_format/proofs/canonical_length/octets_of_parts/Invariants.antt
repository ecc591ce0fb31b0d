use Rattle.std.proofs.Common.{◌≡◌, ◌≤◌, ◌+◌, drop, map, length}
use Rattle.ax_format.specs.Lengths.{capped, parts_octets}
use Rattle.ax_format.specs.Plain.{part_tree, lists_tree}
use Rattle.ax_format.proofs.canonical_length.octets_of_parts.Given as goal

abbrev pub invariant-loop-part : goal.invariant-loop-part
invariant-loop-part l =
    (capped (l.total + parts_octets l.last (map part_tree (drop l.part-index l.parts)) (lists_tree l.rest)) ≡ capped (parts_octets l.last (map part_tree l.parts) (lists_tree l.lists))) × (l.total ≤ 18446744073709551615) × (l.others + l.part-index ≡ length l.parts)
