use Rattle.std.proofs.Common.{◌≡◌, ◌++◌, map, drop, option_map}
use Rattle.ax_edition.specs.Relating.{target_tree, related_parts}
use Rattle.ax_format.specs.Plain.{part_tree}
use Rattle.ax_edition.proofs.relating.Keys.add_parts.Given as goal

abbrev pub invariant-loop-part : goal.invariant-loop-part
invariant-loop-part l =
    (l.number ≡ l._part-index)
    × (l.self.paths ++ related_parts l.way.text l.way.numbers l.number (map part_tree (drop l._part-index l.parts)) l.shared (option_map target_tree l.target)
    ≡ l.fn.self.paths ++ related_parts l.way.text l.way.numbers 0 (map part_tree l.parts) l.shared (option_map target_tree l.target))
