use Rattle.std.proofs.Common.{◌∙◌, ap, option_map, option_and_then}
use Rattle.ax_bits.specs.Bits.{bits}
use Rattle.ax_format.specs.At.{value_at}
use Rattle.ax_format.specs.Reader.{fixed_value}
use Rattle.ax_format.specs.Tree.{extended}
use Rattle.ax_codec.specs.Meaning.{meanings, linked, fixed_of, linked_parts}
use Rattle.ax_codec.specs.Table.{kind_at}
use Rattle.ax_walk.proofs.MemberSteps.{none_left}
use Rattle.ax_walk.proofs.NodeKinds.{extended_links}
use Rattle.ax_walk.proofs.ItemSteps.{item_in, back, spot_at, element_kind, group_kind, in_bounds, in_room, in_fixed, extended_bounds, extended_one, in_extended, no_slot_step, in_slot, closed_whole, closed_steps, slot_in, empty_is, not_empty}
use Rattle.ax_walk.specs.Values.{value_in}
use Rattle.ax_walk.specs.Shown.{item_value}
use Rattle.ax_walk.specs.declared.spot.Spot.TheVariants as Spot
use Rattle.ax_walk.proofs.spot.+spot_within.Goals as goal

pub fixed_spot-requires-clause-bounds : goal.fixed_spot-requires-clause-bounds
fixed_spot-requires-clause-bounds t c = let h = item_in c.args.item.now.codec.now c.as_slice-nodes.result.now c.args.item.now.link c.args.item.now.by_fx c.args.item.now.body.now c.as_slice-nodes.ensures.members c.requires.whole c.args.item.now.item in (in_bounds c.as_slice-nodes.result.now c.args.item.now.link c.args.item.now.body.now c.index-nodes-item.result h c.index-nodes-item.is (element_kind c.as_slice-nodes.result.now c.args.item.now.link c.args.item.now.body.now c.index-nodes-item.result h c.index-nodes-item.is c.in-Element.width c.in-Element.is)).2

pub fixed_spot-requires-clause-room : goal.fixed_spot-requires-clause-room
fixed_spot-requires-clause-room t c = let h = item_in c.args.item.now.codec.now c.as_slice-nodes.result.now c.args.item.now.link c.args.item.now.by_fx c.args.item.now.body.now c.as_slice-nodes.ensures.members c.requires.whole c.args.item.now.item in in_room c.as_slice-nodes.result.now c.args.item.now.link c.args.item.now.body.now c.index-nodes-item.result h c.index-nodes-item.is (element_kind c.as_slice-nodes.result.now c.args.item.now.link c.args.item.now.body.now c.index-nodes-item.result h c.index-nodes-item.is c.in-Element.width c.in-Element.is)

pub fixed_spot-requires-in-Group-clause-bounds : goal.fixed_spot-requires-in-Group-clause-bounds
fixed_spot-requires-in-Group-clause-bounds t c = let h = item_in c.args.item.now.codec.now c.as_slice-nodes.result.now c.args.item.now.link c.args.item.now.by_fx c.args.item.now.body.now c.as_slice-nodes.ensures.members c.requires.whole c.args.item.now.item in (in_bounds c.as_slice-nodes.result.now c.args.item.now.link c.args.item.now.body.now c.index-nodes-item.result h c.index-nodes-item.is (group_kind c.as_slice-nodes.result.now c.args.item.now.link c.args.item.now.body.now c.index-nodes-item.result h c.index-nodes-item.is c.in-Group.width c.in-Group.members c.in-Group.is)).2

pub fixed_spot-requires-in-Group-clause-room : goal.fixed_spot-requires-in-Group-clause-room
fixed_spot-requires-in-Group-clause-room t c = let h = item_in c.args.item.now.codec.now c.as_slice-nodes.result.now c.args.item.now.link c.args.item.now.by_fx c.args.item.now.body.now c.as_slice-nodes.ensures.members c.requires.whole c.args.item.now.item in in_room c.as_slice-nodes.result.now c.args.item.now.link c.args.item.now.body.now c.index-nodes-item.result h c.index-nodes-item.is (group_kind c.as_slice-nodes.result.now c.args.item.now.link c.args.item.now.body.now c.index-nodes-item.result h c.index-nodes-item.is c.in-Group.width c.in-Group.members c.in-Group.is)

pub part_spot-requires-clause-links : goal.part_spot-requires-clause-links
part_spot-requires-clause-links t c = let h = item_in c.args.item.now.codec.now c.as_slice-nodes.result.now c.args.item.now.link c.args.item.now.by_fx c.args.item.now.body.now c.as_slice-nodes.ensures.members c.requires.whole c.args.item.now.item in extended_links c.as_slice-nodes.result.now c.args.item.now.link c.index-nodes-item.result h.table h.some h.within c.index-nodes-item.is c.in-Extended.last c.in-Extended.parts c.as_slice.result.now c.in-Extended.is c.as_slice.ensures.members

pub part_spot-requires-clause-bounds : goal.part_spot-requires-clause-bounds
part_spot-requires-clause-bounds t c = let h = item_in c.args.item.now.codec.now c.as_slice-nodes.result.now c.args.item.now.link c.args.item.now.by_fx c.args.item.now.body.now c.as_slice-nodes.ensures.members c.requires.whole c.args.item.now.item in extended_bounds c.as_slice-nodes.result.now c.args.item.now.link c.args.item.now.body.now c.index-nodes-item.result h c.index-nodes-item.is c.in-Extended.last c.in-Extended.parts c.as_slice.result.now c.in-Extended.is c.as_slice.ensures.members

pub part_spot-requires-clause-one : goal.part_spot-requires-clause-one
part_spot-requires-clause-one t c = let h = item_in c.args.item.now.codec.now c.as_slice-nodes.result.now c.args.item.now.link c.args.item.now.by_fx c.args.item.now.body.now c.as_slice-nodes.ensures.members c.requires.whole c.args.item.now.item in extended_one c.as_slice-nodes.result.now c.args.item.now.link c.args.item.now.body.now c.index-nodes-item.result h c.index-nodes-item.is c.in-Extended.last c.in-Extended.parts c.as_slice.result.now c.in-Extended.is c.as_slice.ensures.members

pub returns-in-Element : goal.returns-in-Element
returns-in-Element t c = let h = item_in c.args.item.now.codec.now c.as_slice-nodes.result.now c.args.item.now.link c.args.item.now.by_fx c.args.item.now.body.now c.as_slice-nodes.ensures.members c.requires.whole c.args.item.now.item in back c.args.item.now.codec.now c.as_slice-nodes.result.now c.args.item.now.link c.args.item.now.body.now c.args.steps.now c.fixed_spot.result c.as_slice-nodes.ensures.members (spot_at c.as_slice-nodes.result.now c.fixed_spot.result c.args.steps.now (fixed_value (fixed_of (linked (meanings c.as_slice-nodes.result.now) c.args.item.now.link)) (bits c.args.item.now.body.now)) (value_in (kind_at c.as_slice-nodes.result.now c.args.item.now.link) c.args.item.now.body.now) (in_fixed c.as_slice-nodes.result.now c.args.item.now.link c.args.item.now.body.now c.index-nodes-item.result h c.index-nodes-item.is (element_kind c.as_slice-nodes.result.now c.args.item.now.link c.args.item.now.body.now c.index-nodes-item.result h c.index-nodes-item.is c.in-Element.width c.in-Element.is)) c.fixed_spot.ensures)

pub returns-in-Group : goal.returns-in-Group
returns-in-Group t c = let h = item_in c.args.item.now.codec.now c.as_slice-nodes.result.now c.args.item.now.link c.args.item.now.by_fx c.args.item.now.body.now c.as_slice-nodes.ensures.members c.requires.whole c.args.item.now.item in back c.args.item.now.codec.now c.as_slice-nodes.result.now c.args.item.now.link c.args.item.now.body.now c.args.steps.now c.fixed_spot-in-Group.result c.as_slice-nodes.ensures.members (spot_at c.as_slice-nodes.result.now c.fixed_spot-in-Group.result c.args.steps.now (fixed_value (fixed_of (linked (meanings c.as_slice-nodes.result.now) c.args.item.now.link)) (bits c.args.item.now.body.now)) (value_in (kind_at c.as_slice-nodes.result.now c.args.item.now.link) c.args.item.now.body.now) (in_fixed c.as_slice-nodes.result.now c.args.item.now.link c.args.item.now.body.now c.index-nodes-item.result h c.index-nodes-item.is (group_kind c.as_slice-nodes.result.now c.args.item.now.link c.args.item.now.body.now c.index-nodes-item.result h c.index-nodes-item.is c.in-Group.width c.in-Group.members c.in-Group.is)) c.fixed_spot-in-Group.ensures)

pub returns-in-Extended : goal.returns-in-Extended
returns-in-Extended t c = let h = item_in c.args.item.now.codec.now c.as_slice-nodes.result.now c.args.item.now.link c.args.item.now.by_fx c.args.item.now.body.now c.as_slice-nodes.ensures.members c.requires.whole c.args.item.now.item in back c.args.item.now.codec.now c.as_slice-nodes.result.now c.args.item.now.link c.args.item.now.body.now c.args.steps.now c.part_spot.result c.as_slice-nodes.ensures.members (spot_at c.as_slice-nodes.result.now c.part_spot.result c.args.steps.now (value_in (extended c.in-Extended.last (linked_parts (meanings c.as_slice-nodes.result.now) c.as_slice.result.now)) c.args.item.now.body.now) (value_in (kind_at c.as_slice-nodes.result.now c.args.item.now.link) c.args.item.now.body.now) (in_extended c.as_slice-nodes.result.now c.args.item.now.link c.args.item.now.body.now c.index-nodes-item.result h c.index-nodes-item.is c.in-Extended.last c.in-Extended.parts c.as_slice.result.now c.in-Extended.is c.as_slice.ensures.members) c.part_spot.ensures)

pub returns-in_default-split_first : goal.returns-in_default-split_first
returns-in_default-split_first t c = let h = item_in c.args.item.now.codec.now c.as_slice-nodes.result.now c.args.item.now.link c.args.item.now.by_fx c.args.item.now.body.now c.as_slice-nodes.ensures.members c.requires.whole c.args.item.now.item in back c.args.item.now.codec.now c.as_slice-nodes.result.now c.args.item.now.link c.args.item.now.body.now c.args.steps.now Spot.Whole c.as_slice-nodes.ensures.members (no_slot_step c.as_slice-nodes.result.now c.args.item.now.link c.args.item.now.body.now c.index-nodes-item.result h c.index-nodes-item.is c.in-Compound.mask c.in-Compound.slots c.in-Compound.is c.args.steps.now (none_left c.args.steps.now c.in_default-split_first.ensures.cases))

pub returns-in-None : goal.returns-in-None
returns-in-None t c = let h = item_in c.args.item.now.codec.now c.as_slice-nodes.result.now c.args.item.now.link c.args.item.now.by_fx c.args.item.now.body.now c.as_slice-nodes.ensures.members c.requires.whole c.args.item.now.item in back c.args.item.now.codec.now c.as_slice-nodes.result.now c.args.item.now.link c.args.item.now.body.now c.args.steps.now Spot.Missing c.as_slice-nodes.ensures.members (in_slot c.as_slice-nodes.result.now c.args.item.now.link c.args.item.now.body.now c.index-nodes-item.result h c.index-nodes-item.is c.in-Compound.mask c.in-Compound.slots c.in-Compound.is c.args.steps.now c.in-Some.later.now c.in-Some.slot.now (option_map item_value c.subitem.result) c.in-Some.ensures.cases.0 (slot_in c.args.item.now.codec.now c.as_slice-nodes.result.now c.args.item.now.link c.in-Some.slot.now c.args.item.now.body.now (option_map item_value c.subitem.result) c.as_slice-nodes.ensures.members c.subitem.ensures.value) ∙ ap (λ r. option_and_then (value_at c.in-Some.later.now) (option_map item_value r)) c.in-None.is)

pub returns-then-is_empty : goal.returns-then-is_empty
returns-then-is_empty t c = let h = item_in c.args.item.now.codec.now c.as_slice-nodes.result.now c.args.item.now.link c.args.item.now.by_fx c.args.item.now.body.now c.as_slice-nodes.ensures.members c.requires.whole c.args.item.now.item in back c.args.item.now.codec.now c.as_slice-nodes.result.now c.args.item.now.link c.args.item.now.body.now c.args.steps.now Spot.Whole c.as_slice-nodes.ensures.members (closed_whole c.as_slice-nodes.result.now c.args.item.now.link c.args.item.now.body.now c.index-nodes-item.result h c.index-nodes-item.is c.in_default.not-Element c.in_default.not-Group c.in_default.not-Extended c.in_default.not-Compound c.args.steps.now (empty_is c.args.steps.now c.is_empty.result c.is_empty.ensures c.if-is_empty.true))

pub returns-else-is_empty : goal.returns-else-is_empty
returns-else-is_empty t c = let h = item_in c.args.item.now.codec.now c.as_slice-nodes.result.now c.args.item.now.link c.args.item.now.by_fx c.args.item.now.body.now c.as_slice-nodes.ensures.members c.requires.whole c.args.item.now.item in back c.args.item.now.codec.now c.as_slice-nodes.result.now c.args.item.now.link c.args.item.now.body.now c.args.steps.now Spot.Missing c.as_slice-nodes.ensures.members (closed_steps c.as_slice-nodes.result.now c.args.item.now.link c.args.item.now.body.now c.index-nodes-item.result h c.index-nodes-item.is c.in_default.not-Element c.in_default.not-Group c.in_default.not-Extended c.in_default.not-Compound c.args.steps.now (not_empty c.args.steps.now c.is_empty.result c.is_empty.ensures c.if-is_empty.false))
