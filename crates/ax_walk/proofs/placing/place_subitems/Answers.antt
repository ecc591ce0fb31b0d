use Rattle.std.proofs.Common.{length, IfSome, IfNone, subst, sym, ◌∙◌, List}
use Rattle.ax_fspec.specs.Reading.{FailsAt, kind_read}
use Rattle.ax_codec.specs.Table.{IsRecordTable, record_kind_at}
use Rattle.ax_codec.specs.declared.node.Node.{Node}
use Rattle.ax_walk.proofs.Found.{compound_bounds, compound_one}
use Rattle.ax_walk.proofs.NodeKinds.{compound_links, compound_mask}
use Rattle.ax_walk.proofs.PlacingSteps.{placed_subitems, subitem_slots}
use Rattle.ax_walk.specs.Placing.{PlacesKind}
use Rattle.ax_walk.proofs.placing.place_subitems.Goals as goal

pub invariant_of-subitems : goal.invariant_of-subitems
invariant_of-subitems c =
    let ns = c.args.item.now.codec.now.nodes in
    record {
      slots = subst (λ (ns : List Node). IsRecordTable ns c.as_slice-links.result.now c.in-Compound.mask) (sym c.of-table.ensures)
          (record {
            within = compound_links c.args.item.now.codec.now.nodes c.args.item.now.link c.node.result.now c.args.item.now.codec.now.table c.args.item.now.item.some c.args.item.now.item.within c.node.ensures c.in-Compound.mask c.in-Compound.slots c.as_slice-links.result.now c.in-Compound.is c.as_slice-links.ensures.members;
            mask = compound_mask c.args.item.now.codec.now.nodes c.args.item.now.link c.node.result.now c.args.item.now.codec.now.table c.args.item.now.item.some c.args.item.now.item.within c.node.ensures c.in-Compound.mask c.in-Compound.slots c.as_slice-links.result.now c.in-Compound.is c.as_slice-links.ensures.members;
            bounds = compound_bounds c.args.item.now.codec.now c.args.item.now.link c.args.item.now.by_fx c.args.item.now.body.now c.node.result.now c.args.item.now.item c.node.ensures c.in-Compound.mask c.in-Compound.slots c.as_slice-links.result.now c.in-Compound.is c.as_slice-links.ensures.members;
          });
    }

pub returns-in-Compound : goal.returns-in-Compound
returns-in-Compound c mask links is =
    let ns = c.args.item.now.codec.now.nodes in
    let slots = c.as_slice-links.result.now in
    let body = c.args.item.now.body.now in
    let new = c.place_slots-end.new.places in
    let same = c.as_slice-links.ensures.members ∙ subitem_slots ns c.args.item.now.link c.node.result.now mask c.in-Compound.mask links c.in-Compound.slots c.args.item.now.item.some c.args.item.now.item.within c.node.ensures is c.in-Compound.is in
    let end = subst (λ (ns : List Node). IfSome c.place_slots-end.result (PlacesKind ns slots body 0 new)) c.of-table.ensures c.place_slots-end.ensures.end in
    let fault = subst (λ (ns : List Node). IfNone c.place_slots-end.result (FailsAt (kind_read (record_kind_at ns slots) body 0) 0 c.place_slots-end.new.notes.fault)) c.of-table.ensures c.place_slots-end.ensures.fault in
    let one = compound_one c.args.item.now.codec.now c.args.item.now.link c.args.item.now.by_fx c.args.item.now.body.now c.node.result.now c.args.item.now.item c.node.ensures c.in-Compound.mask c.in-Compound.slots c.as_slice-links.result.now c.in-Compound.is c.as_slice-links.ensures.members in
    subst (λ links. PlacesKind ns links body 0 new (length body)) same (placed_subitems ns slots body new c.place_slots-end.new.notes.fault c.place_slots-end.result one end fault)
