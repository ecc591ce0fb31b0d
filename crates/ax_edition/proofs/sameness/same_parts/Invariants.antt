use Rattle.std.proofs.Common.{◌≡◌, length, map}
use Rattle.ax_format.specs.Plain.{part_tree}
use Rattle.ax_format.specs.Same.{are_same_parts}
use Rattle.ax_edition.proofs.sameness.same_parts.Given as goal

abbrev pub invariant-loop-part : goal.invariant-loop-part
invariant-loop-part l =
    (length l.part-iterator.a.rest.now ≡ length l.part-iterator.b.rest.now)
    × (are_same_parts (map part_tree l.one) (map part_tree l.other) ≡ are_same_parts (map part_tree l.part-iterator.a.rest.now) (map part_tree l.part-iterator.b.rest.now))
