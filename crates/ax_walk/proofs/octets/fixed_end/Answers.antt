use Rattle.std.proofs.Common.{◌%◌, ap, arith, refl, subst, ◌∙◌}
use Rattle.ax_format.specs.InBounds.{InBounds}
use Rattle.ax_format.specs.Tree as Tree
use Rattle.ax_format.specs.declared.content.Content.TheVariants.{Raw}
use Rattle.ax_codec.specs.Meaning.{meanings, linked_members}
use Rattle.ax_codec.specs.Table.{kind_at}
use Rattle.ax_walk.proofs.NodeKinds.{each_least, end_as, run_end, is_element, is_group, group_width}
use Rattle.ax_walk.proofs.octets.fixed_end.Goals as goal

pub run_end-requires-clause-width : goal.run_end-requires-clause-width
run_end-requires-clause-width c =
    let b : InBounds (Tree.fixed (Tree.element c.in-Element.width Raw)) = subst InBounds (is_element c.args.nodes.now c.args.link c.index-nodes-link.result c.requires.table c.requires.link.0 c.requires.link.1 c.index-nodes-link.is c.in-Element.width c.in-Element.is) c.requires.bounds in (b.0, omega (arith, b.1))

pub run_end-requires-in-Group-clause-width : goal.run_end-requires-in-Group-clause-width
run_end-requires-in-Group-clause-width c =
    let b : InBounds (Tree.fixed (Tree.group (linked_members (meanings c.args.nodes.now) c.in-Group.members))) = subst InBounds (is_group c.args.nodes.now c.args.link c.index-nodes-link.result c.requires.table c.requires.link.0 c.requires.link.1 c.index-nodes-link.is c.in-Group.width c.in-Group.members c.in-Group.is) c.requires.bounds in
    let w = group_width c.args.nodes.now c.args.link c.index-nodes-link.result c.requires.table c.requires.link.0 c.requires.link.1 c.index-nodes-link.is c.in-Group.width c.in-Group.members c.in-Group.is in (ap (λ w. w % 8) w ∙ b.0, omega (arith, b.1))

pub returns-in-Element : goal.returns-in-Element
returns-in-Element c =
    let b : InBounds (Tree.fixed (Tree.element c.in-Element.width Raw)) = subst InBounds (is_element c.args.nodes.now c.args.link c.index-nodes-link.result c.requires.table c.requires.link.0 c.requires.link.1 c.index-nodes-link.is c.in-Element.width c.in-Element.is) c.requires.bounds in
    each_least (kind_at c.args.nodes.now c.args.link) c.args.start.body.now c.args.start.at c.run_end.result (λ least. end_as c.args.start.body.now c.args.start.at (kind_at c.args.nodes.now c.args.link) (Tree.fixed (Tree.element c.in-Element.width Raw)) (is_element c.args.nodes.now c.args.link c.index-nodes-link.result c.requires.table c.requires.link.0 c.requires.link.1 c.index-nodes-link.is c.in-Element.width c.in-Element.is) least c.run_end.result
    (run_end (Tree.element c.in-Element.width Raw) c.args.start.body.now c.args.start.at c.in-Element.width refl least c.run_end.result b c.run_end.ensures.end))

pub returns-in-Group : goal.returns-in-Group
returns-in-Group c =
    let b : InBounds (Tree.fixed (Tree.group (linked_members (meanings c.args.nodes.now) c.in-Group.members))) = subst InBounds (is_group c.args.nodes.now c.args.link c.index-nodes-link.result c.requires.table c.requires.link.0 c.requires.link.1 c.index-nodes-link.is c.in-Group.width c.in-Group.members c.in-Group.is) c.requires.bounds in
    each_least (kind_at c.args.nodes.now c.args.link) c.args.start.body.now c.args.start.at c.run_end-in-Group.result (λ least. end_as c.args.start.body.now c.args.start.at (kind_at c.args.nodes.now c.args.link) (Tree.fixed (Tree.group (linked_members (meanings c.args.nodes.now) c.in-Group.members))) (is_group c.args.nodes.now c.args.link c.index-nodes-link.result c.requires.table c.requires.link.0 c.requires.link.1 c.index-nodes-link.is c.in-Group.width c.in-Group.members c.in-Group.is) least c.run_end-in-Group.result
    (run_end (Tree.group (linked_members (meanings c.args.nodes.now) c.in-Group.members)) c.args.start.body.now c.args.start.at c.in-Group.width (group_width c.args.nodes.now c.args.link c.index-nodes-link.result c.requires.table c.requires.link.0 c.requires.link.1 c.index-nodes-link.is c.in-Group.width c.in-Group.members c.in-Group.is) least c.run_end-in-Group.result b c.run_end-in-Group.ensures.end))
