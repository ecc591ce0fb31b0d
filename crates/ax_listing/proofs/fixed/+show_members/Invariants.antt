use Rattle.std.proofs.Common.{◌*◌, ◌≤◌, length, drop}
use Rattle.ax_bits.specs.Bits.{bits}
use Rattle.ax_held_kinds.specs.HeldFixed.{held_members}
use Rattle.ax_listing.proofs.Members.{MembersShown}
use Rattle.ax_listing.proofs.fixed.+show_members.Given as goal

abbrev pub invariant-show_members-loop-member : goal.invariant-show_members-loop-member
invariant-show_members-loop-member l = record {
  within : l.at ≤ 8 * length l.from.body.now;
  shown : MembersShown (held_members l.members) (held_members (drop l.member-index l.members)) (bits l.from.body.now) l.from.at l.at l.path l.fn.lister.out.octets l.lister.out.octets;
}
