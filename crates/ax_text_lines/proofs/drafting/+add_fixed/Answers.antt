use Rattle.std.proofs.Common.{◌≡◌, ◌<◌, length, get_or, subst}
use Rattle.ax_text_lines.proofs.DraftPieces.{members_go_on}
use Rattle.ax_text_lines.proofs.drafting.+add_fixed.Goals as goal

pub add_members-loop-member-preserved : goal.add_members-loop-member-preserved
add_members-loop-member-preserved t c =
    let all = c.args.members.now in
    let i = c.loop-member.member-index in
    let m = c.member-item.result in
    let same = c.as_slice-member-items.ensures.members in
    let within : i < length all = subst (λ xs. i < length xs) same c.loop-member-test.true in
    let is : m ≡ get_or all i m = subst (λ xs. m ≡ get_or xs i m) same c.member-item.is in
    members_go_on all i m c.args.draft.now c.loop-member.draft c.add_member.new.draft c.loop-member.invariant within is c.in_ok-add_member.ensures
