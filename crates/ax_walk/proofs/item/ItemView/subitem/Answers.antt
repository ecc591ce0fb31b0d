use Rattle.std.proofs.Common.{ap, refl, sym, ◌∙◌}
use Rattle.ax_format.specs.At.{slot_value}
use Rattle.ax_walk.proofs.Found.{compound_bounds, compound_entries, compound_one, no_compound, subitem_place}
use Rattle.ax_walk.proofs.NodeKinds.{compound_links, compound_mask}
use Rattle.ax_walk.proofs.item.ItemView.subitem.Goals as goal

pub find-requires-clause-links : goal.find-requires-clause-links
find-requires-clause-links c =
    compound_links c.args.self.now.codec.now.nodes c.args.self.now.link c.node.result.now c.args.self.now.codec.now.table c.args.self.now.item.some c.args.self.now.item.within c.node.ensures c.in-Compound.mask c.in-Compound.slots c.as_slice.result.now c.in-Compound.is c.as_slice.ensures.members

pub find-requires-clause-mask : goal.find-requires-clause-mask
find-requires-clause-mask c =
    compound_mask c.args.self.now.codec.now.nodes c.args.self.now.link c.node.result.now c.args.self.now.codec.now.table c.args.self.now.item.some c.args.self.now.item.within c.node.ensures c.in-Compound.mask c.in-Compound.slots c.as_slice.result.now c.in-Compound.is c.as_slice.ensures.members

pub find-requires-clause-bounds : goal.find-requires-clause-bounds
find-requires-clause-bounds c = compound_bounds c.args.self.now.codec.now c.args.self.now.link c.args.self.now.by_fx c.args.self.now.body.now c.node.result.now c.args.self.now.item c.node.ensures c.in-Compound.mask c.in-Compound.slots c.as_slice.result.now c.in-Compound.is c.as_slice.ensures.members

pub find-requires-clause-one : goal.find-requires-clause-one
find-requires-clause-one c = compound_one c.args.self.now.codec.now c.args.self.now.link c.args.self.now.by_fx c.args.self.now.body.now c.node.result.now c.args.self.now.item c.node.ensures c.in-Compound.mask c.in-Compound.slots c.as_slice.result.now c.in-Compound.is c.as_slice.ensures.members

pub returns-in-Compound-clause-value : goal.returns-in-Compound-clause-value
returns-in-Compound-clause-value c = c.find.ensures.value ∙ ap (slot_value c.args.slot) (compound_entries c.args.self.now.codec.now c.args.self.now.link c.args.self.now.by_fx c.args.self.now.body.now c.node.result.now c.args.self.now.item c.node.ensures c.in-Compound.mask c.in-Compound.slots c.as_slice.result.now c.in-Compound.is c.as_slice.ensures.members)

pub returns-in_default-clause-value : goal.returns-in_default-clause-value
returns-in_default-clause-value c = sym (ap (slot_value c.args.slot) (no_compound c.args.self.now.codec.now c.args.self.now.link c.args.self.now.by_fx c.args.self.now.body.now c.node.result.now c.args.self.now.item c.node.ensures c.node.result.now refl c.in_default.not-Compound))

pub returns-in-Compound-clause-place : goal.returns-in-Compound-clause-place
returns-in-Compound-clause-place c =
    subitem_place c.args.self.now c.args.slot c.node.result.now c.in-Compound.mask c.in-Compound.slots c.as_slice.result.now c.find.result c.args.self.now.item.some c.args.self.now.item.within c.node.ensures c.in-Compound.is c.as_slice.ensures.members c.find.ensures.place c.find.ensures.window
