use Rattle.std.proofs.Common.{◌≡◌, length, map, take}
use Rattle.ax_format.specs.Plain.{part_tree}
use Rattle.ax_codec.specs.Bare.{bare_members}
use Rattle.ax_codec.specs.Meaning.{meanings, linked_part}
use Rattle.ax_view.proofs.kinds.parts_of_links.Given as goal

abbrev pub invariant-loop-link : goal.invariant-loop-link
invariant-loop-link l = record {
  made : map bare_members (map part_tree l.made) ≡ map (linked_part (meanings l.codec.nodes)) (take l.link-index l.links);
  count : length l.made ≡ l.link-index;
}
