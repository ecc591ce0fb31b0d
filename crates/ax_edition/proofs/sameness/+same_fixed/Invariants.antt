use Rattle.std.proofs.Common.{◌≡◌, length}
use Rattle.ax_format.specs.Plain.{members_tree}
use Rattle.ax_format.specs.Same.{are_same_members}
use Rattle.ax_edition.proofs.sameness.+same_fixed.Given as goal

abbrev pub invariant-same_members-loop-member : goal.invariant-same_members-loop-member
invariant-same_members-loop-member l =
    (length l.member-iterator.a.rest.now ≡ length l.member-iterator.b.rest.now)
    × (are_same_members (members_tree l.one) (members_tree l.other) ≡ are_same_members (members_tree l.member-iterator.a.rest.now) (members_tree l.member-iterator.b.rest.now))
