use Rattle.std.proofs.Common.{◌≡◌, length}
use Rattle.ax_format.specs.Plain.{slots_tree}
use Rattle.ax_format.specs.Same.{are_same_slots}
use Rattle.ax_edition.proofs.sameness.+same_kind.Given as goal

abbrev pub invariant-same_slots-loop-slot : goal.invariant-same_slots-loop-slot
invariant-same_slots-loop-slot l =
    (length l.slot-iterator.a.rest.now ≡ length l.slot-iterator.b.rest.now)
    × (are_same_slots (slots_tree l.one) (slots_tree l.other) ≡ are_same_slots (slots_tree l.slot-iterator.a.rest.now) (slots_tree l.slot-iterator.b.rest.now))
