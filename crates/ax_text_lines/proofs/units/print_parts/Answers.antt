use Rattle.std.proofs.Common.{drop, map, ◌∙◌}
use Rattle.ax_format.specs.Tree.{extended}
use Rattle.ax_fspec.specs.Reading.{kind_read}
use Rattle.ax_text_lines.proofs.Repeated.{parts_start, parts_next, parts_over, parts_fault}
use Rattle.ax_values.proofs.Continuing.{err_by_fault}
use Rattle.ax_text_lines.specs.HeldText.{text_part}
use Rattle.ax_text_lines.proofs.units.print_parts.Goals as goal

pub loop-part-init : goal.loop-part-init
loop-part-init c = record {
  body = c.of-left.ensures.body;
  parts = parts_start c.args.last c.of-left.result.last c.args.parts.now (drop c.of-left.result.index c.of-left.result.parts.now) c.args.body.now c.of-left.result.body.now c.args.at c.of-left.result.at c.of-left.result.more c.args.line.now.octets c.open.new.self.octets
      c.of-left.ensures.last (c.of-left.ensures.parts ∙ c.as_slice.ensures.members) c.of-left.ensures.body c.of-left.ensures.at c.of-left.ensures.more c.of-left.ensures.ready c.in_ok-open.ensures.appended;
}

pub returns-in_err-part-clause-err : goal.returns-in_err-part-clause-err
returns-in_err-part-clause-err c =
    let left = c.loop-part.left in
    let all = map text_part c.args.parts.now in
    let fault = c.in_err-part.field-0.0 in
    err_by_fault (kind_read (extended c.args.last all) c.args.body.now c.args.at) c.args.at c.from_residual-in_err-part.result fault c.from_residual-in_err-part.ensures.1
    (parts_fault c.args.last all left.last left.more (map text_part (drop left.index left.parts.now)) c.args.body.now left.body.now c.args.at left.at c.args.line.now.octets c.loop-part.line.octets c.loop-part.invariant.parts c.loop-part.invariant.body fault c.in_err-part.ensures.fault)

pub loop-part-preserved : goal.loop-part-preserved
loop-part-preserved c =
    let left = c.loop-part.left in
    let new = c.next.new.self in
    let met = rw c.in-Some.is at c.in_ok-part.ensures.some in
    let bit = rw c.in-Some.is at c.in_ok-part.ensures.bit in
    record {
      body = c.next.ensures.body ∙ c.loop-part.invariant.body;
      parts = parts_next c.args.last (map text_part c.args.parts.now) left.last left.more (map text_part (drop left.index left.parts.now)) c.args.body.now left.body.now c.args.at left.at c.args.line.now.octets c.loop-part.line.octets c.loop-part.invariant.parts c.loop-part.invariant.body
          new.last new.body.now c.print_held_part.new.line.octets c.in-Some.first (text_part c.in-Some.part.now) new.more (map text_part (drop new.index new.parts.now)) new.at c.next.ensures.last c.next.ensures.body met c.in_ok-part.ensures.ready bit c.in_ok-print_held_part.ensures;
    }

pub returns-clause-ok : goal.returns-clause-ok
returns-clause-ok c =
    let left = c.loop-part.left in
    let end = rw c.in_default.is at c.in_ok-part.ensures.end in
    let at = rw c.in_default.is at c.in_ok-part.ensures.at in
    parts_over c.args.last (map text_part c.args.parts.now) left.last left.more (map text_part (drop left.index left.parts.now)) c.args.body.now left.body.now c.args.at left.at c.args.line.now.octets c.loop-part.line.octets c.loop-part.invariant.parts c.loop-part.invariant.body
    c.close.new.self.octets c.next.new.self.at end at c.in_ok-close.ensures.appended
