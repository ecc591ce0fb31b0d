use Rattle.std.proofs.Common.{◌≡◌, ◌<◌, IsTrue, length, get_or, subst, rules}
use Rattle.ax_text_lines.proofs.Nested.{nest_go_on}
use Rattle.ax_text_lines.proofs.nesting.+fixed_nests.Goals as goal

pub members_nest-loop-member-preserved : goal.members_nest-loop-member-preserved
members_nest-loop-member-preserved t c =
    let all = c.args.members.now in
    let i = c.loop-member.member-index in
    let m = c.member-item.result in
    let same = c.as_slice-member-items.ensures.members in
    let within : i < length all = subst (λ xs. i < length xs) same c.loop-member-test.true in
    let is : m ≡ get_or all i m = subst (λ xs. m ≡ get_or xs i m) same c.member-item.is in
    let nests : IsTrue c.member_nests.result = search rules in
    nest_go_on c.args.most all i m c.loop-member.invariant within is (c.member_nests.ensures nests)
