use Rattle.std.proofs.Common.{◌≡◌, drop, map}
use Rattle.ax_format.specs.Plain.{part_tree}
use Rattle.ax_format.specs.Naming.{part_named}
use Rattle.ax_format.proofs.naming.find_in_parts.Given as goal

abbrev pub invariant-loop-part : goal.invariant-loop-part
invariant-loop-part l =
    (l.number ≡ l.part-index) × (part_named l.number l.name (map part_tree (drop l.part-index l.parts)) ≡ part_named 0 l.name (map part_tree l.parts))
