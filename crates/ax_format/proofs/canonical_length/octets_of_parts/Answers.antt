use Rattle.std.proofs.Common.{◌+◌, ◌/◌, ◌∙◌, ap, arith}
use Rattle.ax_format.proofs.Counting.{part_there, parts_done, lists_done}
use Rattle.ax_format.specs.Lengths.{capped}
use Rattle.ax_format.proofs.canonical_length.octets_of_parts.Goals as goal

pub returns-in_default : goal.returns-in_default
returns-in_default c = lists_done c.args.last c.args.parts.now c.loop-part.part-index c.loop-part.rest.now c.loop-part.total _ c.in_default.ensures.cases c.loop-part.invariant.1 c.loop-part.invariant.0

pub loop-part-preserved : goal.loop-part-preserved
loop-part-preserved c = (
  part_there c.args.last c.args.parts.now c.loop-part.part-index _ c.part-item.result c.loop-part.rest.now c.in-Some.later.now _ c.loop-part.total c.saturating_add-total.result _
      c.loop-part-test.true (omega arith) c.part-item.is c.in-Some.ensures.cases.0 c.loop-part.invariant.0
      (c.saturating_add-total.ensures ∙ ap (λ x. capped (c.loop-part.total + x)) (c.unit_octets_of.ensures ∙ (λ i. capped (c.width.ensures i + c.fx_width.ensures i) / 8))),
  omega arith,
  omega arith,
)

pub returns : goal.returns
returns c = parts_done c.args.last c.args.parts.now c.loop-part.part-index c.loop-part.rest.now c.loop-part.total _ c.loop-part-test.false c.loop-part.invariant.1 c.loop-part.invariant.0
