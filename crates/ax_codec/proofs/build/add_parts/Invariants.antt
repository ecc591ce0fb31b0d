use Rattle.std.proofs.Common.{◌≡◌, length, map, take}
use Rattle.ax_format.specs.Plain.{part_tree}
use Rattle.ax_codec.specs.Bare.{bare_members}
use Rattle.ax_codec.specs.Making.{AreMade}
use Rattle.ax_codec.specs.Meaning.{linked_part}
use Rattle.ax_codec.proofs.build.add_parts.Given as goal

abbrev pub invariant-loop-part : goal.invariant-loop-part
invariant-loop-part l = record {
  made : AreMade linked_part l.fn.nodes l.nodes l.links (map bare_members (map part_tree (take l.part-index l.parts)));
  count : length l.links ≡ l.part-index;
}
