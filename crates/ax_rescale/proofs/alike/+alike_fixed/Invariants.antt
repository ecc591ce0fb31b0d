use Rattle.std.proofs.Common.{◌≡◌, length}
use Rattle.ax_format.specs.Plain.{members_tree}
use Rattle.ax_format.specs.Same.{are_same_members}
use Rattle.ax_rescale.specs.Alike.{unscaled_members}
use Rattle.ax_rescale.proofs.alike.+alike_fixed.Given as goal

abbrev pub invariant-alike_members-loop-member : goal.invariant-alike_members-loop-member
invariant-alike_members-loop-member l =
    (length l.member-iterator.a.rest.now ≡ length l.member-iterator.b.rest.now)
    × (are_same_members (unscaled_members (members_tree l.old)) (unscaled_members (members_tree l.new))
    ≡ are_same_members (unscaled_members (members_tree l.member-iterator.a.rest.now)) (unscaled_members (members_tree l.member-iterator.b.rest.now)))
