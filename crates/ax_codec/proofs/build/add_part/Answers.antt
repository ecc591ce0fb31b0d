use Rattle.std.proofs.Common.{map, arith}
use Rattle.ax_format.specs.Plain.{member_tree}
use Rattle.ax_codec.proofs.Compiling.{part_node, part_made, ok_map}
use Rattle.ax_codec.proofs.build.add_part.Goals as goal

pub add-requires-clause-node : goal.add-requires-clause-node
add-requires-clause-node c =
    part_node c.args.nodes.now c.add_members.new.nodes c.in_ok-links.links (map member_tree c.args.part.now.members) c.in_ok-links.ensures c.width.result (omega (arith, c.width.ensures, c.requires.width))

pub returns : goal.returns
returns c =
    ok_map c.add.result c.add.ensures (λ link made. part_made c.args.nodes.now c.add_members.new.nodes c.in_ok-links.links (map member_tree c.args.part.now.members) c.in_ok-links.ensures c.add.new.nodes c.width.result link made)
