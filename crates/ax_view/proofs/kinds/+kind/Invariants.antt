use Rattle.std.proofs.Common.{◌≡◌, ◌+◌, ◌*◌, length, map, take}
use Rattle.ax_format.specs.Plain.{slot_tree}
use Rattle.ax_codec.specs.Bare.{bare_slot}
use Rattle.ax_codec.specs.Meaning.{meanings, linked_slot}
use Rattle.ax_walk.proofs.MarkedSteps.{greatest}
use Rattle.ax_view.proofs.kinds.+kind.Given as goal

abbrev pub decreases-kind_of_link : goal.decreases-kind_of_link
decreases-kind_of_link l = 3 * l.link

abbrev pub decreases-slot_of_link : goal.decreases-slot_of_link
decreases-slot_of_link l = 3 * l.link + 1

abbrev pub decreases-slots_of_links : goal.decreases-slots_of_links
decreases-slots_of_links l = 3 * greatest l.links.now + 2

abbrev pub invariant-slots_of_links-loop-link : goal.invariant-slots_of_links-loop-link
invariant-slots_of_links-loop-link l = record {
  made : map bare_slot (map slot_tree l.made) ≡ map (linked_slot (meanings l.codec.nodes)) (take l.link-index l.links);
  count : length l.made ≡ l.link-index;
}
