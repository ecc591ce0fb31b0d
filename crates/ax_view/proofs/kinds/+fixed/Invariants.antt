use Rattle.std.proofs.Common.{◌≡◌, ◌+◌, ◌*◌, length, map, take}
use Rattle.ax_format.specs.Plain.{member_tree}
use Rattle.ax_codec.specs.Bare.{bare_member}
use Rattle.ax_codec.specs.Meaning.{meanings, linked_member}
use Rattle.ax_walk.proofs.MarkedSteps.{greatest}
use Rattle.ax_view.proofs.kinds.+fixed.Given as goal

abbrev pub decreases-fixed_of_link : goal.decreases-fixed_of_link
decreases-fixed_of_link l = 2 * l.link

abbrev pub decreases-members_of_links : goal.decreases-members_of_links
decreases-members_of_links l = 2 * greatest l.links.now + 1

abbrev pub invariant-members_of_links-loop-link : goal.invariant-members_of_links-loop-link
invariant-members_of_links-loop-link l = record {
  made : map bare_member (map member_tree l.made) ≡ map (linked_member (meanings l.codec.nodes)) (take l.link-index l.links);
  count : length l.made ≡ l.link-index;
}
