use Rattle.std.proofs.Common.{◌≡◌, ◌+◌, drop, map}
use Rattle.ax_format.specs.Same.{common}
use Rattle.ax_format.specs.Plain.{part_tree}
use Rattle.ax_edition.proofs.sameness.common_of.Given as goal

abbrev pub invariant-loop-part : goal.invariant-loop-part
invariant-loop-part l = (l.count ≡ l.part-index) × (common (map part_tree l.old) (map part_tree l.new) ≡ l.count + common (map part_tree (drop l.part-index l.old)) (map part_tree l.rest))
