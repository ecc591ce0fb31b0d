use Rattle.std.proofs.Common.{◌≡◌, length, map, take}
use Rattle.ax_held_kinds.specs.Held.{held_part}
use Rattle.ax_format.specs.Plain.{part_tree}
use Rattle.ax_held_kinds.proofs.build.hold_parts.Given as goal

abbrev pub invariant-loop-part : goal.invariant-loop-part
invariant-loop-part l =
    (length l.made ≡ l.part-index) × (map held_part l.made ≡ map part_tree (take l.part-index l.parts))
