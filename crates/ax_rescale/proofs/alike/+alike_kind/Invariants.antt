use Rattle.std.proofs.Common.{◌≡◌, length}
use Rattle.ax_format.specs.Plain.{slots_tree}
use Rattle.ax_format.specs.Same.{are_same_slots}
use Rattle.ax_rescale.specs.Alike.{unscaled_slots}
use Rattle.ax_rescale.proofs.alike.+alike_kind.Given as goal

abbrev pub invariant-alike_slots-loop-slot : goal.invariant-alike_slots-loop-slot
invariant-alike_slots-loop-slot l =
    (length l.slot-iterator.a.rest.now ≡ length l.slot-iterator.b.rest.now)
    × (are_same_slots (unscaled_slots (slots_tree l.old)) (unscaled_slots (slots_tree l.new))
    ≡ are_same_slots (unscaled_slots (slots_tree l.slot-iterator.a.rest.now)) (unscaled_slots (slots_tree l.slot-iterator.b.rest.now)))
