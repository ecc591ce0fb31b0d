use Rattle.ax_bits.specs.Bits.{bits}
use Rattle.ax_format.specs.Reader.{fixed_value}
use Rattle.ax_codec.specs.Meaning.{meanings, linked, fixed_of}
use Rattle.ax_codec.specs.Table.{kind_at}
use Rattle.ax_walk.proofs.ItemSteps.{item_in, back, spot_at, element_kind, group_kind, in_bounds, in_room, in_fixed}
use Rattle.ax_walk.specs.Values.{value_in}
use Rattle.ax_walk.proofs.spot.spot_of.Goals as goal

pub fixed_spot-requires-clause-bounds : goal.fixed_spot-requires-clause-bounds
fixed_spot-requires-clause-bounds c = let h = item_in c.args.item.now.codec.now c.as_slice-nodes.result.now c.args.item.now.link c.args.item.now.by_fx c.args.item.now.body.now c.as_slice-nodes.ensures.members c.requires.whole c.args.item.now.item in (in_bounds c.as_slice-nodes.result.now c.args.item.now.link c.args.item.now.body.now c.index-nodes-item.result h c.index-nodes-item.is (element_kind c.as_slice-nodes.result.now c.args.item.now.link c.args.item.now.body.now c.index-nodes-item.result h c.index-nodes-item.is c.in-Element.width c.in-Element.is)).2

pub fixed_spot-requires-clause-room : goal.fixed_spot-requires-clause-room
fixed_spot-requires-clause-room c = let h = item_in c.args.item.now.codec.now c.as_slice-nodes.result.now c.args.item.now.link c.args.item.now.by_fx c.args.item.now.body.now c.as_slice-nodes.ensures.members c.requires.whole c.args.item.now.item in in_room c.as_slice-nodes.result.now c.args.item.now.link c.args.item.now.body.now c.index-nodes-item.result h c.index-nodes-item.is (element_kind c.as_slice-nodes.result.now c.args.item.now.link c.args.item.now.body.now c.index-nodes-item.result h c.index-nodes-item.is c.in-Element.width c.in-Element.is)

pub fixed_spot-requires-in-Group-clause-bounds : goal.fixed_spot-requires-in-Group-clause-bounds
fixed_spot-requires-in-Group-clause-bounds c = let h = item_in c.args.item.now.codec.now c.as_slice-nodes.result.now c.args.item.now.link c.args.item.now.by_fx c.args.item.now.body.now c.as_slice-nodes.ensures.members c.requires.whole c.args.item.now.item in (in_bounds c.as_slice-nodes.result.now c.args.item.now.link c.args.item.now.body.now c.index-nodes-item.result h c.index-nodes-item.is (group_kind c.as_slice-nodes.result.now c.args.item.now.link c.args.item.now.body.now c.index-nodes-item.result h c.index-nodes-item.is c.in-Group.width c.in-Group.members c.in-Group.is)).2

pub fixed_spot-requires-in-Group-clause-room : goal.fixed_spot-requires-in-Group-clause-room
fixed_spot-requires-in-Group-clause-room c = let h = item_in c.args.item.now.codec.now c.as_slice-nodes.result.now c.args.item.now.link c.args.item.now.by_fx c.args.item.now.body.now c.as_slice-nodes.ensures.members c.requires.whole c.args.item.now.item in in_room c.as_slice-nodes.result.now c.args.item.now.link c.args.item.now.body.now c.index-nodes-item.result h c.index-nodes-item.is (group_kind c.as_slice-nodes.result.now c.args.item.now.link c.args.item.now.body.now c.index-nodes-item.result h c.index-nodes-item.is c.in-Group.width c.in-Group.members c.in-Group.is)

pub returns-in-Element : goal.returns-in-Element
returns-in-Element c = let h = item_in c.args.item.now.codec.now c.as_slice-nodes.result.now c.args.item.now.link c.args.item.now.by_fx c.args.item.now.body.now c.as_slice-nodes.ensures.members c.requires.whole c.args.item.now.item in back c.args.item.now.codec.now c.as_slice-nodes.result.now c.args.item.now.link c.args.item.now.body.now c.args.steps.now c.fixed_spot.result c.as_slice-nodes.ensures.members (spot_at c.as_slice-nodes.result.now c.fixed_spot.result c.args.steps.now (fixed_value (fixed_of (linked (meanings c.as_slice-nodes.result.now) c.args.item.now.link)) (bits c.args.item.now.body.now)) (value_in (kind_at c.as_slice-nodes.result.now c.args.item.now.link) c.args.item.now.body.now) (in_fixed c.as_slice-nodes.result.now c.args.item.now.link c.args.item.now.body.now c.index-nodes-item.result h c.index-nodes-item.is (element_kind c.as_slice-nodes.result.now c.args.item.now.link c.args.item.now.body.now c.index-nodes-item.result h c.index-nodes-item.is c.in-Element.width c.in-Element.is)) c.fixed_spot.ensures)

pub returns-in-Group : goal.returns-in-Group
returns-in-Group c = let h = item_in c.args.item.now.codec.now c.as_slice-nodes.result.now c.args.item.now.link c.args.item.now.by_fx c.args.item.now.body.now c.as_slice-nodes.ensures.members c.requires.whole c.args.item.now.item in back c.args.item.now.codec.now c.as_slice-nodes.result.now c.args.item.now.link c.args.item.now.body.now c.args.steps.now c.fixed_spot-in-Group.result c.as_slice-nodes.ensures.members (spot_at c.as_slice-nodes.result.now c.fixed_spot-in-Group.result c.args.steps.now (fixed_value (fixed_of (linked (meanings c.as_slice-nodes.result.now) c.args.item.now.link)) (bits c.args.item.now.body.now)) (value_in (kind_at c.as_slice-nodes.result.now c.args.item.now.link) c.args.item.now.body.now) (in_fixed c.as_slice-nodes.result.now c.args.item.now.link c.args.item.now.body.now c.index-nodes-item.result h c.index-nodes-item.is (group_kind c.as_slice-nodes.result.now c.args.item.now.link c.args.item.now.body.now c.index-nodes-item.result h c.index-nodes-item.is c.in-Group.width c.in-Group.members c.in-Group.is)) c.fixed_spot-in-Group.ensures)
