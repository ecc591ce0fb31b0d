use Rattle.std.proofs.Common.{◌∙◌, length, ap, arith, refl, subst}
use Rattle.ax_codec.proofs.ExtentSteps.{counts_on, counts_wide, counts_bare}
use Rattle.ax_codec.proofs.Tables.{part_bits_at}
use Rattle.ax_codec.specs.Table.{LinksWithin}
use Rattle.ax_codec.proofs.extent.octet_parts.Goals as goal
use Rattle.ax_codec.proofs.extent.octet_parts.Goals.{then-part_width-ne7-via-then-part_width-ne7, then-part_width-ne7-via-else-part_width-ne7+then-fx_width-ne1}

pub loop-part-preserved : goal.loop-part-preserved
loop-part-preserved c =
    let inv = c.loop-part.invariant in
    let is = c.in-Some.ensures.cases.0 in
    let links = subst (LinksWithin (length c.args.nodes.now)) is inv.within in
    let width = c.part_width.ensures ∙ part_bits_at c.args.nodes.now c.in-Some.part.now c.index-nodes-part.result c.requires.table links.0.0 links.0.1 c.index-nodes-part.is in
    record {
      within = links.1;
      same = counts_on c.args.nodes.now c.args.last c.args.parts.now c.loop-part.left.now c.loop-part.count c.in-Some.part.now c.in-Some.later.now is inv.same c.part_width.result c.fx_width.result width c.fx_width.ensures (omega (arith, c.if-part_width-ne7.false)) (omega (arith, c.if-fx_width-ne1.false));
      few = omega (arith, inv.few, ap length is);
    }

pub returns-then-part_width-ne7 : goal.returns-then-part_width-ne7
returns-then-part_width-ne7 c =
    let inv = c.loop-part.invariant in
    let is = c.in-Some.ensures.cases.0 in
    let links = subst (LinksWithin (length c.args.nodes.now)) is inv.within in
    let width = c.part_width.ensures ∙ part_bits_at c.args.nodes.now c.in-Some.part.now c.index-nodes-part.result c.requires.table links.0.0 links.0.1 c.index-nodes-part.is in
    elim c.then-part_width-ne7.branch [
      | then-part_width-ne7-via-then-part_width-ne7 w ↦ counts_wide c.args.nodes.now c.args.last c.args.parts.now c.loop-part.left.now c.loop-part.count c.in-Some.part.now c.in-Some.later.now is inv.same c.part_width.result _ width refl w.if-part_width-ne7.true
      | then-part_width-ne7-via-else-part_width-ne7+then-fx_width-ne1 w ↦ counts_bare c.args.nodes.now c.args.last c.args.parts.now c.loop-part.left.now c.loop-part.count c.in-Some.part.now c.in-Some.later.now is inv.same c.part_width.result w.fx_width.result width w.fx_width.ensures (omega (arith, w.if-part_width-ne7.false)) w.if-fx_width-ne1.true
    ]
