use denote.Param.Weighed.{at_most, most}
use Rattle.std.proofs.Common.{◌+◌, drop, length, ap, sym, subst, arith}
use Rattle.std.proofs.lemmas.List.{drop_all}
use Rattle.ax_format.proofs.value.Value.TheLaws.{the_size}
use Rattle.ax_format.specs.Canonical.{members_canon}
use Rattle.ax_format.specs.Plain.{members_tree, values_tree}
use Rattle.ax_values.proofs.Written.{MembersLeft, members_first, member_at, member_bounds, member_shape, member_room, member_more, members_ended, values_ended}
use Rattle.ax_values.proofs.WrittenKinds.{from_place}
use Rattle.ax_values.proofs.write_units.+write_fixed.Goals as goal

pub write_members-loop-value-init : goal.write_members-loop-value-init
write_members-loop-value-init t c =
    let out = c.args.out.now in
    let whole = members_canon (members_tree c.args.members.now) (values_tree c.args.values.now) in
    let at_rest = subst (λ ms. MembersLeft out out whole ms c.args.values.now) (sym c.as_slice-rest.ensures.members) (members_first out c.args.members.now c.args.values.now c.requires.bounds c.requires.shape) in
    subst (λ vs. MembersLeft out out whole c.as_slice-rest.result.now vs) (sym c.as_slice-value-items.ensures.members) at_rest

pub write_members-returns-in_default : goal.write_members-returns-in_default
write_members-returns-in_default t c =
    members_ended c.args.out.now c.loop-value.out (members_canon (members_tree c.args.members.now) (values_tree c.args.values.now)) c.loop-value.rest.now (drop c.loop-value.value-index c.as_slice-value-items.result.now) c.loop-value.invariant c.in_default.ensures.cases

pub write_members-write_member-requires : goal.write_members-write_member-requires
write_members-write_member-requires t c =
    let vs = c.as_slice-value-items.result.now in
    let i = c.loop-value.value-index in
    let v = c.value-item.result in
    let whole = members_canon (members_tree c.args.members.now) (values_tree c.args.values.now) in
    let held = member_at c.args.out.now c.loop-value.out whole c.in-Some.member.now c.loop-value.rest.now c.in-Some.later.now v (drop i vs) (drop (i + 1) vs) c.loop-value.invariant c.in-Some.ensures.cases.0 (from_place vs i v c.loop-value-test.true c.value-item.is) in
    let small = at_most the_size vs i v c.loop-value-test.true in
    let same_size = ap the_size c.value-item.is in
    let same_most = ap (λ xs. most the_size xs) c.as_slice-value-items.ensures.members in
    (omega (arith, small, same_size, same_most, c.decreases), (member_bounds c.args.out.now c.loop-value.out whole c.in-Some.member.now c.in-Some.later.now v (drop (i + 1) vs) held, (member_shape c.args.out.now c.loop-value.out whole c.in-Some.member.now c.in-Some.later.now v (drop (i + 1) vs) held, member_room c.args.out.now c.loop-value.out whole c.in-Some.member.now c.in-Some.later.now v (drop (i + 1) vs) held c.requires.room)))

pub write_members-loop-value-preserved : goal.write_members-loop-value-preserved
write_members-loop-value-preserved t c =
    let vs = c.as_slice-value-items.result.now in
    let i = c.loop-value.value-index in
    let v = c.value-item.result in
    let whole = members_canon (members_tree c.args.members.now) (values_tree c.args.values.now) in
    let held = member_at c.args.out.now c.loop-value.out whole c.in-Some.member.now c.loop-value.rest.now c.in-Some.later.now v (drop i vs) (drop (i + 1) vs) c.loop-value.invariant c.in-Some.ensures.cases.0 (from_place vs i v c.loop-value-test.true c.value-item.is) in
    member_more c.args.out.now c.loop-value.out c.write_member.new.out whole c.in-Some.member.now c.in-Some.later.now v (drop (i + 1) vs) held c.write_member.ensures

pub write_members-returns : goal.write_members-returns
write_members-returns t c =
    let i = c.loop-value.value-index in
    let vs = c.as_slice-value-items.result.now in
    values_ended c.args.out.now c.loop-value.out (members_canon (members_tree c.args.members.now) (values_tree c.args.values.now)) c.loop-value.rest.now (drop i vs) c.loop-value.invariant (ap length (drop_all i vs c.loop-value-test.false))
