use Rattle.std.proofs.Common.{drop, map, subst, sym, ◌∙◌}
use Rattle.ax_format.specs.Plain.{part_tree}
use Rattle.ax_fspec.proofs.AtOctets.{parts_at}
use Rattle.ax_values.proofs.PartsRead.{PartsSoFar, parts_start, parts_next, parts_over}
use Rattle.ax_values.proofs.units.decode_parts.Goals as goal

pub loop-made-init : goal.loop-made-init
loop-made-init c = record {
  body = c.of-left.ensures.body;
  parts = parts_start c.args.last c.of-left.result.last c.args.parts.now (drop c.of-left.result.index c.of-left.result.parts.now) c.args.body.now c.of-left.result.body.now c.args.at c.of-left.result.at c.of-left.result.more c.new-made.result
      c.of-left.ensures.last (c.of-left.ensures.parts ∙ c.as_slice.ensures.members) c.of-left.ensures.body c.of-left.ensures.at c.of-left.ensures.more c.new-made.ensures c.of-left.ensures.ready;
}

pub loop-made-preserved : goal.loop-made-preserved
loop-made-preserved c =
    let left = c.loop-made.left in
    let new = c.next.new.self in
    let whole = parts_at c.args.last (map part_tree c.args.parts.now) c.args.body.now c.args.at in
    let met = rw c.in-Some.is at c.in_ok-part.ensures.some in
    let bit = rw c.in-Some.is at c.in_ok-part.ensures.bit in
    record {
      body = c.next.ensures.body ∙ c.loop-made.invariant.body;
      parts = subst (λ made. PartsSoFar whole new.last new.more (map part_tree (drop new.index new.parts.now)) new.body.now c.args.at new.at made) (sym c.in_ok-push.ensures.ok)
          (parts_next whole left.last new.last left.more (map part_tree (drop left.index left.parts.now)) c.args.body.now left.body.now new.body.now c.args.at left.at c.in-Some.first c.loop-made.made (part_tree c.in-Some.part.now) new.more (map part_tree (drop new.index new.parts.now)) new.at c.in_ok-values.values
          c.loop-made.invariant.parts c.loop-made.invariant.body c.next.ensures.last c.next.ensures.body met c.in_ok-part.ensures.ready bit c.in_ok-values.ensures.values);
    }

pub returns-clause-ok : goal.returns-clause-ok
returns-clause-ok c =
    let left = c.loop-made.left in
    let end = rw c.in_default.is at c.in_ok-part.ensures.end in
    let at = rw c.in_default.is at c.in_ok-part.ensures.at in
    parts_over c.args.last left.last (map part_tree c.args.parts.now) left.more (map part_tree (drop left.index left.parts.now)) c.args.body.now left.body.now c.args.at left.at c.next.new.self.at c.loop-made.made c.loop-made.invariant.parts c.loop-made.invariant.body at end
