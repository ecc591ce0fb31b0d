use Rattle.std.proofs.Common.{◌≡◌, length, map, take}
use Rattle.ax_text_lines.specs.HeldText.{text_part}
use Rattle.ax_format.specs.Plain.{part_tree}
use Rattle.ax_text_lines.proofs.build.hold_parts.Given as goal

abbrev pub invariant-loop-part : goal.invariant-loop-part
invariant-loop-part l =
    (length l.made ≡ l.part-index) × (map text_part l.made ≡ map part_tree (take l.part-index l.parts))
