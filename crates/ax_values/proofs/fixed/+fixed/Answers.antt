use Rattle.std.proofs.Common.{◌≡◌, ◌+◌, ◌<◌, length, get_or, subst, sym, drop}
use Rattle.ax_bits.specs.Bits.{bits}
use Rattle.ax_values.proofs.FixedRead.{MembersSoFar, members_more}
use Rattle.ax_values.proofs.FixedWays.{element_bounds, element_within, element_read, element_end, group_read, group_end, named_read, spare_read}
use Rattle.ax_values.proofs.fixed.+fixed.Goals as goal

pub decode_members-loop-member-preserved : goal.decode_members-loop-member-preserved
decode_members-loop-member-preserved t c =
    let all = c.args.members.now in
    let i = c.loop-member.member-index in
    let m = c.member-item.result in
    let same = c.as_slice-member-items.ensures.members in
    let within : i < length all = subst (λ xs. i < length xs) same c.loop-member-test.true in
    let is : m ≡ get_or all i m = subst (λ xs. m ≡ get_or xs i m) same c.member-item.is in
    subst (λ made. MembersSoFar all (i + 1) made (bits c.args.body.now) c.args.at.now c.decode_member.new.at) (sym c.in_ok-push.ensures.ok)
    (members_more all i m c.loop-member.made c.in_ok-value.value (bits c.args.body.now) c.args.at.now c.loop-member.at c.decode_member.new.at c.loop-member.invariant within is c.in_ok-value.ensures.value c.in_ok-value.ensures.at)

pub decode_fixed-decode_number-requires-clause-width : goal.decode_fixed-decode_number-requires-clause-width
decode_fixed-decode_number-requires-clause-width t c = element_bounds c.args.fixed.now _ _ c.in-Element.is c.requires.bounds

pub decode_fixed-decode_number-requires-clause-within : goal.decode_fixed-decode_number-requires-clause-within
decode_fixed-decode_number-requires-clause-within t c = element_within c.args.fixed.now _ _ c.args.at.now _ c.in-Element.is c.requires.within

pub decode_fixed-returns-in-Element-clause-value : goal.decode_fixed-returns-in-Element-clause-value
decode_fixed-returns-in-Element-clause-value t c = element_read c.args.fixed.now _ c.decode_number.result _ (drop c.args.at.now (bits c.args.body.now)) c.in-Element.is c.decode_number.ensures.value

pub decode_fixed-returns-in-Element-clause-at : goal.decode_fixed-returns-in-Element-clause-at
decode_fixed-returns-in-Element-clause-at t c = element_end c.args.fixed.now _ _ c.args.at.now _ c.in-Element.is c.decode_number.ensures.at

pub decode_fixed-returns-in_ok-values-in-Group-clause-value : goal.decode_fixed-returns-in_ok-values-in-Group-clause-value
decode_fixed-returns-in_ok-values-in-Group-clause-value t c = group_read c.args.fixed.now _ c.in_ok-values-in-Group.values (drop c.args.at.now (bits c.args.body.now)) c.in-Group.is c.in_ok-values-in-Group.ensures.values

pub decode_fixed-returns-in_ok-values-in-Group-clause-at : goal.decode_fixed-returns-in_ok-values-in-Group-clause-at
decode_fixed-returns-in_ok-values-in-Group-clause-at t c = group_end c.args.fixed.now _ c.args.at.now _ c.in-Group.is c.in_ok-values-in-Group.ensures.at

pub decode_member-returns-in-Named-clause-value : goal.decode_member-returns-in-Named-clause-value
decode_member-returns-in-Named-clause-value t c = named_read c.args.member.now _ _ c.decode_fixed.result (drop c.args.at.now (bits c.args.body.now)) c.in-Named.is c.decode_fixed.ensures.value

pub decode_member-returns-in-Spare-clause-value : goal.decode_member-returns-in-Spare-clause-value
decode_member-returns-in-Spare-clause-value t c = spare_read c.args.member.now _ c.decode_number.result (drop c.args.at.now (bits c.args.body.now)) c.in-Spare.is c.decode_number.ensures.value
