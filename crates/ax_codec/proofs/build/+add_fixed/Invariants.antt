use Rattle.std.proofs.Common.{◌≡◌, length, map, take}
use Rattle.ax_format.specs.Plain.{member_tree}
use Rattle.ax_codec.specs.Bare.{bare_member}
use Rattle.ax_codec.specs.Making.{AreMade}
use Rattle.ax_codec.specs.Meaning.{linked_member}
use Rattle.ax_codec.proofs.build.+add_fixed.Given as goal

abbrev pub invariant-add_members-loop-member : goal.invariant-add_members-loop-member
invariant-add_members-loop-member l = record {
  made : AreMade linked_member l.fn.nodes l.nodes l.links (map bare_member (map member_tree (take l.member-index l.members)));
  count : length l.links ≡ l.member-index;
}
