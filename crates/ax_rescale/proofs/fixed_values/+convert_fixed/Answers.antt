use denote.Param.Weighed.{at_most, most}
use Rattle.std.proofs.Common.{rules, length, ap, arith}
use Rattle.std.proofs.lemmas.List.{drop_all, length_push}
use Rattle.ax_format.proofs.kind.Member.TheLaws.{the_size}
use Rattle.ax_format.proofs.Namings.{from_place}
use Rattle.ax_rescale.proofs.GroupSteps.{member_ready, member_made, member_none, members_all, no_value_left, no_member_left, members_too_many, if_some, if_none}
use Rattle.ax_rescale.proofs.fixed_values.+convert_fixed.Goals as goal

pub convert_members-returns-in_default-clause-none : goal.convert_members-returns-in_default-clause-none
convert_members-returns-in_default-clause-none t c =
    no_member_left _ _ _ _ _ _ _ _ _ c.loop-member.invariant.1 (from_place _ _ _ c.loop-member-test.true c.member-item.is) c.in_default.ensures.cases

pub convert_members-returns-in_default-split_first-clause-none : goal.convert_members-returns-in_default-split_first-clause-none
convert_members-returns-in_default-split_first-clause-none t c =
    absurd (no_value_left _ _ _ _ _ _ _ _ _ c.loop-member.invariant.1 (from_place _ _ _ c.loop-member-test.true c.member-item.is) c.in_default-split_first.ensures.cases)

pub convert_members-convert_member-requires : goal.convert_members-convert_member-requires
convert_members-convert_member-requires t c =
    let small = at_most the_size c.as_slice-member-items.result.now c.loop-member.member-index c.member-item.result c.loop-member-test.true in
    let same_size = ap the_size c.member-item.is in
    let same_most = ap (λ xs. most the_size xs) c.as_slice-member-items.ensures.members in
    (omega (arith, small, same_size, same_most, c.decreases), member_ready _ _ _ _ _ _ _ _ _ _ _ _ _ c.loop-member.invariant.1 (from_place _ _ _ c.loop-member-test.true c.member-item.is) c.in-Some.ensures.cases.0 c.in-Some-split_first.ensures.cases.0)

pub convert_members-returns-in_default-2-clause-none : goal.convert_members-returns-in_default-2-clause-none
convert_members-returns-in_default-2-clause-none t c =
    member_none _ _ _ _ _ _ _ _ _ _ _ _ _ c.loop-member.invariant.1 (from_place _ _ _ c.loop-member-test.true c.member-item.is) c.in-Some.ensures.cases.0 c.in-Some-split_first.ensures.cases.0
    (if_none _ c.in_ok-one.field-0 c.in_default-2.is c.in_ok-one.ensures.none)

pub convert_members-loop-member-preserved : goal.convert_members-loop-member-preserved
convert_members-loop-member-preserved t c = (
  omega (arith, ap length c.in_ok-push.ensures.ok, length_push c.loop-member.made c.in-Some-2.one, c.loop-member.invariant.0),
  member_made _ _ _ _ _ _ _ _ _ _ _ _ _ c.loop-member.invariant.1 (from_place _ _ _ c.loop-member-test.true c.member-item.is) c.in-Some.ensures.cases.0 c.in-Some-split_first.ensures.cases.0 _ _ c.in_ok-push.ensures.ok
      (if_some _ c.in_ok-one.field-0 _ c.in-Some-2.is c.in_ok-one.ensures.some),
)

pub convert_members-returns-then-is_empty-clause-some : goal.convert_members-returns-then-is_empty-clause-some
convert_members-returns-then-is_empty-clause-some t c =
    members_all _ _ _ _ _ _ _ c.loop-member.invariant.1 (drop_all _ _ c.loop-member-test.false) (search rules)

pub convert_members-returns-else-is_empty-clause-none : goal.convert_members-returns-else-is_empty-clause-none
convert_members-returns-else-is_empty-clause-none t c =
    members_too_many _ _ _ _ _ _ _ c.loop-member.invariant.1 (drop_all _ _ c.loop-member-test.false) (search rules)
