use Rattle.std.proofs.Common.{◌≡◌, ◌<◌, length, get_or, subst}
use Rattle.ax_bits.specs.Bits.{bits}
use Rattle.ax_held_kinds.specs.HeldFixed.{held_members}
use Rattle.ax_listing.proofs.Members.{member_next}
use Rattle.ax_listing.proofs.fixed.+show_members.Goals as goal

pub show_members-loop-member-preserved : goal.show_members-loop-member-preserved
show_members-loop-member-preserved t c =
    let all = c.args.members.now in
    let i = c.loop-member.member-index in
    let m = c.member-item.result in
    let same = c.as_slice-member-items.ensures.members in
    let within : i < length all = subst (λ xs. i < length xs) same c.loop-member-test.true in
    let is : m ≡ get_or all i m = subst (λ xs. m ≡ get_or xs i m) same c.member-item.is in
    record {
      within = c.in_ok-at.ensures.end.1;
      shown = member_next (held_members all) all i m (bits c.args.from.body.now) c.args.from.at c.loop-member.at c.args.path.now c.args.lister.now.out.octets c.loop-member.lister.out.octets c.loop-member.invariant.shown within is
          c.in_ok-at.at c.show_member.new.lister.out.octets c.in_ok-at.ensures.lines c.in_ok-at.ensures.end.0;
    }
