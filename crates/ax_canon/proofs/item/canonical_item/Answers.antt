use Rattle.std.proofs.Common.{ap, sym, ◌∙◌}
use Rattle.ax_canon.proofs.Items.{inner_link, inner_bounds, counted_item, item_links, item_mask, slots_bound, compound_item, plain_item}
use Rattle.ax_canon.proofs.item.canonical_item.Goals as goal

pub rewrite_counted-requires-clause-link : goal.rewrite_counted-requires-clause-link
rewrite_counted-requires-clause-link c =
    inner_link c.args.item.now c.requires.whole c.node.result.now c.node.ensures c.as_slice-nodes.result.now (c.as_slice-nodes.ensures.members ∙ ap (λ x. x.nodes) (sym c.requires.codec)) c.in-Counted.counter c.in-Counted.inner c.in-Counted.is

pub rewrite_counted-requires-clause-bounds : goal.rewrite_counted-requires-clause-bounds
rewrite_counted-requires-clause-bounds c =
    inner_bounds c.args.item.now c.requires.whole c.node.result.now c.node.ensures c.as_slice-nodes.result.now (c.as_slice-nodes.ensures.members ∙ ap (λ x. x.nodes) (sym c.requires.codec)) c.in-Counted.counter c.in-Counted.inner c.in-Counted.is

pub rewrite_compound-requires-clause-links : goal.rewrite_compound-requires-clause-links
rewrite_compound-requires-clause-links c =
    item_links c.args.item.now c.requires.whole c.node.result.now c.node.ensures c.as_slice-nodes.result.now (c.as_slice-nodes.ensures.members ∙ ap (λ x. x.nodes) (sym c.requires.codec)) c.in-Compound.mask c.in-Compound.slots c.as_slice-links.result.now c.in-Compound.is c.as_slice-links.ensures.members

pub rewrite_compound-requires-clause-mask : goal.rewrite_compound-requires-clause-mask
rewrite_compound-requires-clause-mask c =
    item_mask c.args.item.now c.requires.whole c.node.result.now c.node.ensures c.as_slice-nodes.result.now (c.as_slice-nodes.ensures.members ∙ ap (λ x. x.nodes) (sym c.requires.codec)) c.in-Compound.mask c.in-Compound.slots c.as_slice-links.result.now c.in-Compound.is c.as_slice-links.ensures.members

pub rewrite_compound-requires-clause-bounds : goal.rewrite_compound-requires-clause-bounds
rewrite_compound-requires-clause-bounds c =
    slots_bound c.args.item.now c.requires.whole c.node.result.now c.node.ensures c.as_slice-nodes.result.now (c.as_slice-nodes.ensures.members ∙ ap (λ x. x.nodes) (sym c.requires.codec)) c.in-Compound.mask c.in-Compound.slots c.as_slice-links.result.now c.in-Compound.is c.as_slice-links.ensures.members

pub returns-in-Counted : goal.returns-in-Counted
returns-in-Counted c =
    counted_item c.args.item.now c.requires.whole c.node.result.now c.node.ensures c.as_slice-nodes.result.now (c.as_slice-nodes.ensures.members ∙ ap (λ x. x.nodes) (sym c.requires.codec)) c.in-Counted.counter c.in-Counted.inner c.in-Counted.is
    c.octets.result.now c.rewrite_counted.result c.args.out.now c.rewrite_counted.new.out c.octets.ensures.body c.rewrite_counted.ensures

pub returns-in-Compound : goal.returns-in-Compound
returns-in-Compound c =
    compound_item c.args.item.now c.requires.whole c.node.result.now c.node.ensures c.as_slice-nodes.result.now (c.as_slice-nodes.ensures.members ∙ ap (λ x. x.nodes) (sym c.requires.codec)) c.in-Compound.mask c.in-Compound.slots c.as_slice-links.result.now c.in-Compound.is c.as_slice-links.ensures.members
    c.octets-in-Compound.result.now c.rewrite_compound.result c.args.out.now c.rewrite_compound.new.out c.octets-in-Compound.ensures.body c.rewrite_compound.ensures

pub returns-in_default : goal.returns-in_default
returns-in_default c =
    plain_item c.args.item.now c.requires.whole c.node.result.now c.node.ensures c.octets-in_default.result.now c.args.out.now c.push_octets.new.self c.in_default.not-Counted c.in_default.not-Compound c.octets-in_default.ensures.body c.push_octets.ensures
